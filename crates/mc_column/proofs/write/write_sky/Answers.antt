use Rattle.std.proofs.Common.{◌≡◌, ℕ, ◌+◌, ◌*◌, ◌-◌, ◌<◌, ◌≤◌, [], length, ap, sym, ◌∙◌, arith}
use Rattle.std.proofs.lemmas.List.{get_or_read}
use Rattle.mc_column.specs.Sizes.{section_count, section_cells, light_bytes, row_bytes}
use Rattle.mc_column.specs.SizesLaws.{section_count-is, light_bytes-is}
use Rattle.mc_column.specs.Cells.{joined, section_of}
use Rattle.mc_column.specs.Light.{sky_bytes}
use Rattle.mc_column.specs.KeptColumn.{nth_section}
use Rattle.mc_column.proofs.Pieces.{piece_all, length-joined_all}
use Rattle.mc_column.proofs.PutFacts.{piece_within}
use Rattle.mc_column.proofs.WriteFacts.{sky_none, sky_more}
use Rattle.mc_column.proofs.write.write_sky.Goals as goal

next : (z y n : ℕ) → z ≡ y + 1 → z * n ≡ y * n + n
next z y n e = rw e (more y n)
  where
    more : (y n : ℕ) → (y + 1) * n ≡ y * n + n
    more y n = grind arith

small : (r size i : ℕ) → i < section_count → r ≤ i → size ≡ light_bytes → r * size < 1000000
small r size i lt le sized = rw (sized, light_bytes-is) (omega (arith, section_count-is))

pub loop-i-init : goal.loop-i-init
loop-i-init c = sky_none _ _ _ _ _ (omega (
  arith,
  c.len-i.ensures,
  c.requires.all_there,
  c.args.sections.now.ok,
)) (length-joined_all (nth_section c.args.sections.now.items)
    section_cells section_count (record { at = c.requires.sized })) c.full_light-light.ensures
    c.requires.room

pub overflow_mul-from : goal.overflow_mul-from
overflow_mul-from c =
    omega (
      arith,
      small _ _ _ (omega (
        arith,
        c.loop-i-test.true,
        c.loop-i.auto.i,
        c.len-i.ensures,
        c.requires.all_there,
        c.args.sections.now.ok,
      )) c.rank.ensures.most c.light_of_section.ensures,
    )

pub shade_at-requires-clause-air : goal.shade_at-requires-clause-air
shade_at-requires-clause-air c left_out =
    let lt : c.loop-i.i - 1 < section_count = omega (
      arith,
      c.loop-i-test.true,
      c.loop-i.auto.i,
      c.len-i.ensures,
      c.requires.all_there,
      c.args.sections.now.ok,
    ) in
    let there : c.loop-i.i - 1 < length c.args.sections.now.items =
    omega (arith, lt, c.requires.all_there) in
    let is : c.index-section.result.now ≡ nth_section c.args.sections.now.items (c.loop-i.i - 1) =
    get_or_read _ _ _ there c.index-section.ensures [] in
    rw is (c.requires.air (c.loop-i.i - 1) lt (sym c.names.ensures ∙ left_out))

pub shade_at-requires-clause-room : goal.shade_at-requires-clause-room
shade_at-requires-clause-room c named =
    let lt : c.loop-i.i - 1 < section_count = omega (
      arith,
      c.loop-i-test.true,
      c.loop-i.auto.i,
      c.len-i.ensures,
      c.requires.all_there,
      c.args.sections.now.ok,
    ) in
    rw (c.rank.ensures.value, c.light_of_section.ensures)
    (omega (
      arith,
      piece_within c.args.mask (c.loop-i.i - 1) light_bytes lt
          (sym c.names.ensures ∙ named),
      c.loop-i.invariant.sky_is,
    ))

pub loop-i-preserved : goal.loop-i-preserved
loop-i-preserved c =
    let lt : c.loop-i.i - 1 < section_count = omega (
      arith,
      c.loop-i-test.true,
      c.loop-i.auto.i,
      c.len-i.ensures,
      c.requires.all_there,
      c.args.sections.now.ok,
    ) in
    let step : c.loop-i.i ≡ c.loop-i.i - 1 + 1 = omega (arith, c.loop-i-test.true) in
    let there : c.loop-i.i - 1 < length c.args.sections.now.items =
    omega (arith, lt, c.requires.all_there) in
    let states = joined (nth_section c.args.sections.now.items) section_count in
    let is : c.index-section.result.now ≡ section_of (joined (nth_section c.args.sections.now.items)
    section_count) (c.loop-i.i - 1) =
    get_or_read _ _ _ there c.index-section.ensures [] ∙
    sym (piece_all (nth_section c.args.sections.now.items) section_cells (c.loop-i.i - 1)
    section_count (record { at = c.requires.sized }) lt) in
    let above : c.loop-i.light ≡ sky_bytes (joined (nth_section c.args.sections.now.items)
    section_count) ((c.loop-i.i - 1) * section_cells + section_cells) row_bytes =
    c.loop-i.invariant.now ∙
    ap (λ (k : ℕ). sky_bytes (joined (nth_section c.args.sections.now.items) section_count) k
    row_bytes) (next c.loop-i.i (c.loop-i.i - 1) section_cells step) in
    sky_more _ _ c.loop-i.light c.loop-i.sky c.shade_at.new.light c.shade_at.new.sky
    (c.loop-i.i - 1) c.loop-i.i step lt c.loop-i.invariant c.shade_at.auto.sky
    (c.shade_at.ensures.lowest _ _ is above)
    (λ named. rw (c.rank.ensures.value, c.light_of_section.ensures) at (c.shade_at.ensures.written _
    _ is above (c.names.ensures ∙ named)))
    (λ left_out. c.shade_at.ensures.left_out (c.names.ensures ∙ left_out))
