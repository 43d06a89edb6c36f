use Rattle.std.proofs.Common.{◌≡◌, ℕ, List, map, ap, sym, subst, ◌∙◌}
use Rattle.std.specs.FinMap.{entries}
use lib.IntN.{ℤ, pos}
use Rattle.mc_entities.specs.declared.entity.Entity.{Entity}
use Rattle.mc_entities.specs.Folk.{eid_of}
use Rattle.mc_entities.specs.Numbers.{Rise}
use Rattle.mc_model.specs.Delta.{destroying}
use Rattle.mc_model.specs.Sight.{others}
use Rattle.mc_sending.specs.Sending.{play_bytes}
use Rattle.mc_view.specs.declared.view_set.ViewSet.{ViewSet}
use Rattle.mc_view.specs.Told.{Told}
use Rattle.mc_told.specs.Telling.{rows_in, rows_packets, told_row, with_rows}
use Rattle.mc_told.proofs.Rows.{frames_are}
use Rattle.mc_told.proofs.Told.{lost_is, none_gone, none_told, others_rise, told_all, told_same}
use Rattle.mc_told.proofs.entities.tell.Goals as goal

-- all but the own entity rise
risen : (me : ℤ) (given : ℕ) (all entities : List Entity) → all ≡ entities →
    Rise eid_of (pos 0) all (pos given) → Rise eid_of (pos 0) (others me entities) (pos given)
risen me given all entities same rise = others_rise me (pos given) entities
    (subst (λ (fs : List Entity). Rise eid_of (pos 0) fs (pos given)) same rise)

-- what was told is just the rows of all but the own entity
just_rows : (told : Told) (me : ℤ) (view : ViewSet) (all es : List Entity) → all ≡ es →
    entries told ≡ map told_row (rows_in view (others me all)) →
    entries told ≡ map told_row (rows_in view (others me es))
just_rows told me view all es same is =
    is ∙ ap (λ (fs : List Entity). map told_row (rows_in view (others me fs))) same

pub returns-clause-shown : goal.returns-clause-shown
returns-clause-shown c =
    let told = c.args.told.now in
    let v = c.args.view.now in
    let es = others v.me v.folk.now.state.entities in
    let all = c.all-entities.ensures in
    c.in_ok-shown.ensures.sent
    ∙ ap (λ (fs : List Entity). play_bytes (rows_packets told (rows_in v.view (others v.me fs))))
    all.entities
    ∙ ap play_bytes (sym (frames_are told es v.view))

pub returns-clause-told : goal.returns-clause-told
returns-clause-told c =
    let v = c.args.view.now in
    let state = v.folk.now.state in
    let es = others v.me state.entities in
    let all = c.all-entities.ensures in
    let rise = risen v.me state.given _ state.entities all.entities all.rise in
    c.in_ok-shown.ensures.now
    ∙ ap (λ (t : Told). with_rows t (rows_in v.view (others v.me c.all-entities.result.now)))
    c.in_ok-now.ensures
    ∙ ap (λ (fs : List Entity). with_rows _ (rows_in v.view (others v.me fs))) all.entities
    ∙ told_all es v.view (pos state.given) rise

pub returns-clause-gone : goal.returns-clause-gone
returns-clause-gone c =
    let v = c.args.view.now in
    let es = others v.me v.folk.now.state.entities in
    c.in_ok-destroyed.ensures
    ∙ ap (λ (eids : List ℤ). play_bytes (destroying eids))
    (lost_is c.args.told.now _ es v.view (returns-clause-told c))

-- ---- where nothing changed

pub returns-then-are_as_told-clause-gone : goal.returns-then-are_as_told-clause-gone
returns-then-are_as_told-clause-gone c =
    let v = c.args.view.now in
    let state = v.folk.now.state in
    let all = c.all-entities.ensures in
    let es = others v.me state.entities in
    c.new.ensures ∙ sym (ap (λ (eids : List ℤ). play_bytes (destroying eids))
    (none_gone c.args.told.now es v.view (pos state.given)
    (risen v.me state.given _ state.entities all.entities all.rise)
    (just_rows c.args.told.now v.me v.view _ state.entities all.entities
    (c.are_as_told.ensures c.if-are_as_told.true))))

pub returns-then-are_as_told-clause-shown : goal.returns-then-are_as_told-clause-shown
returns-then-are_as_told-clause-shown c =
    let v = c.args.view.now in
    let state = v.folk.now.state in
    let all = c.all-entities.ensures in
    let es = others v.me state.entities in
    c.new-then-are_as_told.ensures ∙ sym (ap play_bytes (frames_are c.args.told.now es v.view
    ∙ none_told c.args.told.now es v.view (pos state.given)
    (risen v.me state.given _ state.entities all.entities all.rise)
    (just_rows c.args.told.now v.me v.view _ state.entities all.entities
    (c.are_as_told.ensures c.if-are_as_told.true))))

pub returns-then-are_as_told-clause-told : goal.returns-then-are_as_told-clause-told
returns-then-are_as_told-clause-told c =
    let v = c.args.view.now in
    let state = v.folk.now.state in
    let all = c.all-entities.ensures in
    told_same c.args.told.now (others v.me state.entities) v.view (pos state.given)
    (risen v.me state.given _ state.entities all.entities all.rise)
    (just_rows c.args.told.now v.me v.view _ state.entities all.entities
    (c.are_as_told.ensures c.if-are_as_told.true))
