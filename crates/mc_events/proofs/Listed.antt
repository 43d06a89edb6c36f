-- The list of players after a step of one connection is that of the players in play.
use Rattle.std.proofs.Common.{◌≡◌, ◌≢◌, ℕ, ◌+◌, ◌<◌, ◌≤◌, Bool, true, false, cond, List, [], ◌∷◌}
use Rattle.std.proofs.Common.{map, refl, sym, subst, ap, ◌∙◌, arith, inl, inr}
use Rattle.std.specs.Prelude.{◌==◌, ◌||◌, Option, Some, None, is_some, option_map}
use Rattle.std.specs.List.{AllByRecursion, filter, list_any}
use Rattle.std.specs.Cmp.{nat_cmp_total}
use Rattle.std.specs.FinMap.{FinMap, contains_key, entries, entries_sorted, get, get-entries}
use Rattle.std.specs.FinMap.{insert, len, len-insert, remove, values}
use Rattle.std.specs.Ordering.{nat_cmp}
use Rattle.std.proofs.lemmas.Bool.{cases_eq}
use Rattle.std.proofs.lemmas.Bool.Decides.{nat_tests}
use Rattle.mc_model.proofs.Maps.Sorted.{each_found}
use Rattle.mc_model.specs.Names.{offline_uuid}
use Rattle.mc_model.specs.Step.{Event, step}
use Rattle.mc_flush.specs.Lists.{ListValue}
use Rattle.mc_model.specs.declared.player.Player.{Player}
use Rattle.mc_model.specs.Apart.{IsOf, Traits, traits_of}
use Rattle.mc_model.specs.Game.{Game, players_of}
use Rattle.mc_model.specs.Good.{Good}
use Rattle.mc_model.specs.Headline.{Between, ends, plays_on}
use Rattle.mc_model.specs.World.{World}
use Rattle.mc_model.proofs.Maps.Lookups.{gone_other, gone_same, maps_alike, put_other, put_same}
use Rattle.mc_model.proofs.Maps.Options.{none_some, some_is}
use Rattle.mc_showing.specs.Shown.{pairs_of}
use Rattle.mc_showing.proofs.PairFacts.{pairs_alike, pairs_entered, pairs_few, pairs_has}
use Rattle.mc_showing.proofs.PairFacts.{pairs_left}
use Rattle.mc_events.specs.Listing.{Follows}
use Rattle.mc_events.specs.Stands.{IsReached}
use Rattle.mc_events.proofs.Reached.{reached_between, reached_few, reached_good, reached_only}

-- the name of a player, by its identifier
abbrev pair : Player → ℕ × List ℕ
pair p = (p.uuid, p.name)

-- the identifier of a player, if there is one
abbrev pub uuid_of : Option Player → Option ℕ
uuid_of o = option_map (λ (p : Player). p.uuid) o

pair_by : (o q : Option Player) → option_map traits_of o ≡ option_map traits_of q →
    option_map pair o ≡ option_map pair q
pair_by o q same =
    sym (named o) ∙ ap (option_map (λ (t : Traits). (t.uuid, t.name))) same ∙ named q
  where
    named : (p : Option Player) → option_map (λ (t : Traits). (t.uuid, t.name))
        (option_map traits_of p) ≡ option_map pair p
    named None = refl
    named (Some p) = refl

-- ---- but for one connection

-- a game without the player of a connection
abbrev without : ℕ → Game → Game
without k g = record g { players = remove g.players k }

-- where all others are alike, the lists without it are the same
others_alike : (k : ℕ) (g h : Game) →
    ((j : ℕ) → j ≢ k → option_map traits_of (get h.players j)
    ≡ option_map traits_of (get g.players j)) →
    pairs_of (without k h) ≡ pairs_of (without k g)
others_alike k g h same = pairs_alike (without k g) (without k h) (λ j.
    elim (cases_eq j k) [
      | inl is ↦ rw (is, gone_same h.players k, gone_same g.players k) refl
      | inr ne ↦ rw (gone_other h.players k j ne, gone_other g.players k j ne)
          (pair_by (get h.players j) (get g.players j) (same j ne))
    ])

-- nothing is taken out where nobody is
without_nobody : (k : ℕ) (g : Game) → get g.players k ≡ None → remove g.players k ≡ g.players
without_nobody k g none = maps_alike (remove g.players k) g.players (λ j. elim (cases_eq j k) [
  | inl is ↦ rw is (gone_same g.players k ∙ sym none)
  | inr ne ↦ gone_other g.players k j ne
])

-- a player that is taken out and put in again
put_again : (k : ℕ) (g : Game) (p : Player) → get g.players k ≡ Some p →
    g.players ≡ insert (remove g.players k) k p
put_again k g p there = maps_alike g.players (insert (remove g.players k) k p) (λ j.
    elim (cases_eq j k) [
      | inl is ↦ rw is (there ∙ sym (put_same (remove g.players k) k p))
      | inr ne ↦ sym (put_other (remove g.players k) k j p ne ∙ gone_other g.players k j ne)
    ])

-- no test holds of any value where it holds of none that is found
none_any : (test : Player → Bool) (m : FinMap nat_cmp Player) →
    ((j : ℕ) (q : Player) → get m j ≡ Some q → test q ≡ false) → list_any test (values m) ≡ false
none_any test m each = walk (entries m)
    (each_found nat_cmp_total (λ (e : ℕ × Player). test e.1 ≡ false) (λ (e : ℕ × Player). true)
    (entries m) (entries_sorted m) (λ j q found. each j q (get-entries m j ∙ found)))
  where
    walk : (es : List (ℕ × Player)) →
        AllByRecursion (λ (e : ℕ × Player). test e.1 ≡ false)
        (filter (λ (e : ℕ × Player). true) es) →
        list_any test (map (λ (e : ℕ × Player). e.1) es) ≡ false
    walk [] all = refl
    walk (e ∷ es) all = ap (λ b. b || list_any test (map (λ (e : ℕ × Player). e.1) es)) all.0
        ∙ walk es all.1

-- no other has the identifier of a player
nobody_else : (k : ℕ) (g : Game) (p : Player) → Good g → get g.players k ≡ Some p →
    list_any (λ (q : Player). q.uuid == p.uuid) (players_of (without k g)) ≡ false
nobody_else k g p good there =
    none_any (λ (q : Player). q.uuid == p.uuid) (remove g.players k) (λ j q is.
    elim (cases_eq j k) [
      | inl same ↦ absurd (none_some _ q (ap (get (remove g.players k)) same
          ∙ gone_same g.players k) is)
      | inr ne ↦ differ q.uuid p.uuid (good.apart j k q p
          (sym (gone_other g.players k j ne) ∙ is) there ne).uuid
    ])
  where
    differ : (a b : ℕ) → a ≢ b → (a == b) ≡ false
    differ a b ne = grind (arith, nat_tests, ne)

-- ---- one that comes

-- the list without it was the one before
before_coming : (k : ℕ) (g h : Game) → get g.players k ≡ None →
    ((j : ℕ) → j ≢ k → option_map traits_of (get h.players j)
    ≡ option_map traits_of (get g.players j)) →
    pairs_of (without k h) ≡ pairs_of g
before_coming k g h none same =
    others_alike k g h same
    ∙ ap (λ (m : FinMap nat_cmp Player). pairs_of (record g { players = m }))
    (without_nobody k g none)

-- fewer were there than are now
fewer_before : (k : ℕ) (h : Game) (p : Player) → get h.players k ≡ Some p →
    len h.players ≤ 50 → len (pairs_of (without k h)) < 50
fewer_before k h p there few =
    let pairs = pairs_few (without k h) in
    let one : len h.players ≡ len (remove h.players k) + 1 =
    ap len (put_again k h p there)
    ∙ len-insert nat_cmp_total (remove h.players k) k p
    ∙ ap (λ (o : Option Player).
    cond (is_some o) (len (remove h.players k)) (len (remove h.players k) + 1))
    (gone_same h.players k) in
    omega (arith, pairs, one, few)

came_listed : (k : ℕ) (g h : Game) (p : Player) (old new : ListValue) → Good h →
    len h.players ≤ 50 → get g.players k ≡ None → get h.players k ≡ Some p →
    ((j : ℕ) → j ≢ k → option_map traits_of (get h.players j)
    ≡ option_map traits_of (get g.players j)) →
    old.present ≡ pairs_of g → Follows None (Some p) old new → new.present ≡ pairs_of h
came_listed k g h p old new good few none there same is follows =
    let before : old.present ≡ pairs_of (without k h) =
    is ∙ sym (before_coming k g h none same) in
    let other = nobody_else k h p good there in
    let unlisted : contains_key old.present p.uuid ≡ false =
    ap (λ pairs. contains_key pairs p.uuid) before ∙ pairs_has (without k h) p.uuid ∙ other in
    let room : len old.present < 50 =
    subst (λ pairs. len pairs < 50) (sym before) (fewer_before k h p there few) in
    ap (λ (list : ListValue). list.present) (follows unlisted room)
    ∙ ap (λ pairs. insert pairs p.uuid p.name) before
    ∙ sym (pairs_entered (without k h) h k p (put_again k h p there) (gone_same h.players k)
    other)

-- ---- one that goes

went_listed : (k : ℕ) (g h : Game) (p : Player) (old new : ListValue) → Good g →
    get g.players k ≡ Some p → get h.players k ≡ None →
    ((j : ℕ) → j ≢ k → option_map traits_of (get h.players j)
    ≡ option_map traits_of (get g.players j)) →
    old.present ≡ pairs_of g → Follows (Some p.uuid) None old new → new.present ≡ pairs_of h
went_listed k g h p old new good there none same is follows =
    ap (λ (list : ListValue). list.present) follows
    ∙ ap (λ pairs. remove pairs p.uuid) is
    ∙ sym (pairs_left g (without k g) k p refl there
    (λ j o here ne. (good.apart j k o p here there ne).uuid))
    ∙ sym (others_alike k g h same)
    ∙ ap (λ (m : FinMap nat_cmp Player). pairs_of (record h { players = m }))
    (without_nobody k h none)

-- ---- one that stays, or nobody

stays_listed : (k : ℕ) (g h : Game) (old new : ListValue) →
    option_map pair (get h.players k) ≡ option_map pair (get g.players k) →
    ((j : ℕ) → j ≢ k → option_map traits_of (get h.players j)
    ≡ option_map traits_of (get g.players j)) →
    old.present ≡ pairs_of g → new ≡ old → new.present ≡ pairs_of h
stays_listed k g h old new own same is follows =
    ap (λ (list : ListValue). list.present) follows ∙ is
    ∙ sym (pairs_alike g h (λ j. elim (cases_eq j k) [
      | inl at ↦ rw at own
      | inr ne ↦ pair_by (get h.players j) (get g.players j) (same j ne)
    ]))

-- a player that stays has its name, and so its identifier
same_pair : (w : World) (e : Event) (k : ℕ) (p q : Player) → Good w.game →
    Good (step w e).world.game → get w.game.players k ≡ Some p →
    get (step w e).world.game.players k ≡ Some q → Between w e k p → pair q ≡ pair p
same_pair w e k p q before good there here (plays_on m r link at plays name shown handed) =
    let named : q.name ≡ p.name =
    ap (λ (x : Player). x.name) (some_is q r (sym here ∙ plays)) ∙ name in
    let uuid : q.uuid ≡ p.uuid = (good.own k q here).uuid ∙ ap offline_uuid named
    ∙ sym (before.own k p there).uuid in
    λ i. (uuid i, named i)
same_pair w e k p q before good there here (ends cause m link at caused gone handed) =
    absurd (none_some _ q gone here)

-- ---- all of it

pub listed : (w : World) (e : Event) (k : ℕ) (old new : ListValue) → IsOf k e → IsReached w →
    IsReached (step w e).world → old.present ≡ pairs_of w.game →
    Follows (uuid_of (get w.game.players k)) (get (step w e).world.game.players k) old new →
    new.present ≡ pairs_of (step w e).world.game
listed w e k old new own reached later is follows =
    by_cases (get w.game.players k) (get (step w e).world.game.players k) refl refl follows
  where
    g : Game
    g = w.game

    h : Game
    h = (step w e).world.game

    same : (j : ℕ) → j ≢ k → option_map traits_of (get h.players j)
        ≡ option_map traits_of (get g.players j)
    same = (reached_only w e k own reached).traits

    by_cases : (o q : Option Player) → get g.players k ≡ o → get h.players k ≡ q →
        Follows (uuid_of o) q old new → new.present ≡ pairs_of h
    by_cases None None there here follows = stays_listed k g h old new
        (ap (option_map pair) (here ∙ sym there)) same is follows
    by_cases None (Some q) there here follows =
        came_listed k g h q old new (reached_good (step w e).world later).game
        (reached_few (step w e).world later) there here same is follows
    by_cases (Some p) None there here follows =
        went_listed k g h p old new (reached_good w reached).game there here same is follows
    by_cases (Some p) (Some q) there here follows = stays_listed k g h old new
        (ap (option_map pair) here
        ∙ ap (λ (x : ℕ × List ℕ). Some x) (same_pair w e k p q (reached_good w reached).game
        (reached_good (step w e).world later).game there here
        (reached_between w e k p reached there (λ tick. subst (IsOf k) tick own)))
        ∙ sym (ap (option_map pair) there)) same is follows
