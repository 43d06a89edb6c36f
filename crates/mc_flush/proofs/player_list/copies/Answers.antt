use Rattle.std.proofs.Common.{◌≡◌, [], ◌∷◌, ◌++◌, None, sym, subst, ap, ◌∙◌, append_assoc}
use Rattle.std.specs.Prelude.{nat_eq}
use Rattle.std.specs.List.{IsDistinct}
use Rattle.std.specs.Map.{lookup, keys_of}
use Rattle.indexmap.proofs.CallerLemmas.{insert_entry-new}
use Rattle.mc_flush.proofs.Lookups.{not_before}
use Rattle.mc_flush.proofs.Missing.{Players}
use Rattle.mc_flush.proofs.player_list.copies.Goals as goal

pub loop-uuid-preserved : goal.loop-uuid-preserved
loop-uuid-preserved c =
    let done = c.loop-uuid.copies.entries in
    let k = c.in-Some.uuid.now in
    let v = c.in-Some.name.now in
    let rest = c.next.new.self in
    let parts : c.args.players.now.entries ≡ done ++ (k, v) ∷ rest = sym c.loop-uuid.invariant
    ∙ ap (λ (es : Players). done ++ es) c.in-Some.ensures.steps in
    let none : lookup (nat_eq k) done ≡ None = not_before done rest k v (subst (λ (es : Players).
    IsDistinct nat_eq (keys_of es)) parts c.iter-uuid-items.ensures.unique) in
    let put : c.put_copy.new.copies.entries ≡ done ++ (k, v) ∷ [] =
    c.in_ok-put_copy.ensures ∙ insert_entry-new nat_eq c.loop-uuid.copies k v none in
    ap (λ (es : Players). es ++ rest) put ∙ append_assoc done ((k, v) ∷ []) rest ∙ sym parts
