use Rattle.std.proofs.Common.{◌≡◌, ◌*◌, ◌<◌, [], length, sym, ◌∙◌, arith, refl}
use Rattle.std.proofs.lemmas.List.{get_or_read}
use Rattle.mc_column.specs.Sizes.{section_count, section_cells}
use Rattle.mc_column.specs.KeptColumn.{nth_section}
use Rattle.mc_column.proofs.WriteFacts.{appended_more}
use Rattle.mc_column.proofs.PutFacts.{piece_within}
use Rattle.mc_column.proofs.write.append_blocks.Goals as goal

pub append_states-requires : goal.append_states-requires
append_states-requires c named =
    let lt : c.loop-i.i < section_count = omega (
      arith,
      c.loop-i-test.true,
      c.len-i-end.ensures,
      c.requires.all_there,
    ) in
    omega (
      arith,
      c.loop-i.invariant.len,
      c.loop-i.invariant.room,
      c.requires.room,
      piece_within c.args.mask c.loop-i.i (2 * section_cells) lt (sym c.names.ensures ∙ named),
    )

pub loop-i-preserved : goal.loop-i-preserved
loop-i-preserved c =
    let lt : c.loop-i.i < section_count = omega (
      arith,
      c.loop-i-test.true,
      c.len-i-end.ensures,
      c.requires.all_there,
    ) in
    let there : c.loop-i.i < length c.args.sections.now.items =
    omega (arith, lt, c.requires.all_there) in
    let is : c.index-section.result.now ≡ nth_section c.args.sections.now.items c.loop-i.i =
    get_or_read _ _ _ there c.index-section.ensures [] in
    appended_more _ _ _ c.loop-i.out c.append_states.new.out c.loop-i.i c.loop-i.invariant
    (c.requires.sized c.loop-i.i lt) (c.append_states.ensures.items ∙
    rw (is, c.names.ensures) refl) c.append_states.ensures.room
