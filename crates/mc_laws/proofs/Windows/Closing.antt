-- Windows that close and open: of one player, of several, and of who leaves.
use Rattle.std.proofs.Common.{◌≡◌, ◌≢◌, ℕ, ◌+◌, ◌≤◌, Bool, true, false, List, [], ◌∷◌, Option, Some}
use Rattle.std.proofs.Common.{None, refl, sym, subst, ap, ◌∙◌, arith}
use Rattle.std.specs.Prelude.{◌⊎◌, ◌==◌, ◌%◌, not, nat_lt, is_some, option_map}
use Rattle.std.specs.Prelude.{if◌then◌else◌}
use Rattle.std.proofs.lemmas.Bool.Decides.{nat_tests}
use Rattle.std.specs.FinMap.{get}
use Rattle.mc_fields.specs.declared.position.Cell.{Cell}
use Rattle.mc_windows.specs.Pack.{PackValue, begun_pack, finished_pack}
use Rattle.mc_model.specs.declared.player.Player.{Player}
use Rattle.mc_model.specs.Notes.{again}
use Rattle.mc_model.specs.Game.{Game, pack_of, room_in}
use Rattle.mc_model.specs.Deeds.{go_of, noting, repack_of, watching}
use Rattle.mc_model.specs.Windows.{kept_in_hand, let_fall, open_chest, opened, shut, shut_all}
use Rattle.mc_model.specs.Leaving.{leave, leave_all}
use Rattle.mc_model.proofs.Maps.Options.{none_some, some_is}
use Rattle.mc_model.proofs.Maps.Lookups.{changed_other, changed_same, gone_other, gone_same}
use Rattle.mc_model.proofs.Maps.Lookups.{name_changed_other, name_changed_same}
use Rattle.mc_laws.proofs.Deeds.Leaving.{leave_cases}
use Rattle.mc_laws.proofs.Deeds.Shutting.{of_cases}
use Rattle.mc_laws.proofs.Windows.Watching.{ChangesName, Watch, renamed, restood}
use Rattle.mc_laws.proofs.Windows.Watching.{stood}
use Rattle.mc_laws.proofs.Windows.Same.{SameWindows, ShownBut, fallen_same, nobody, noted_same}
use Rattle.mc_laws.proofs.Windows.Same.{number_of, same_parts, stands_in, watch_of, who_in}
use Rattle.mc_laws.proofs.Windows.Same.{window_in}

-- ---- one window

-- the player of a connection is shown another chest, or none, in a window of another number
pub record Turns (k : ℕ) (name : List ℕ) (chest : Option Cell) (n : ℕ) (g v : Game) : Type 0 where
  pub here : who_in v k ≡ Some (record { name = name; chest = chest })
  pub names : ChangesName k name chest n (who_in g) (who_in v) (window_in g) (window_in v)
  pub stands : (cell : Cell) → stands_in g cell ≡ true → stands_in v cell ≡ true

module _ (but : ℕ → Type 0) (k : ℕ) (p : Player) (was : Option Cell) (g : Game)
    (at : who_in g k ≡ Some (record { name = p.name; chest = was })) (r : ShownBut but g) where
  watched_turns : (chest : Option Cell) (pack : PackValue) (v : Game) → pack.window ≤ 100 →
      is_some chest ≡ not (pack.window == 0) → SameWindows (repack_of p pack g) v →
      Turns k p.name chest pack.window g (watching chest k v)
  watched_turns chest pack v low number s = record {
    here = here;
    names = record {
      was = λ a is. ap (λ (x : Watch). x.name) (some_is a _ (sym is ∙ at));
      is = λ a is. some_is a _ (sym is ∙ here);
      others = λ j ne. ap (option_map watch_of)
          (changed_other v.players k j (λ (q : Player). record q { chest = chest }) ne) ∙ s.who j;
      alone = λ j a ne is. r.apart j k a _ is at ne;
      window = s.windows p.name ∙ grind (arith, nat_tests, name_changed_same, r.carries k _ at);
      rest = λ other ne. s.windows other ∙ ap (option_map number_of)
          (name_changed_other g.packs p.name other (λ (old : PackValue). pack) ne);
      number = number;
      low = low;
      gone = λ none. absurd (none_some _ _ none here);
    };
    stands = s.stands;
  }
    where
      here : who_in (watching chest k v) k ≡ Some (record { name = p.name; chest = chest })
      here = (let same = s.who k ∙ at in grind (arith, nat_tests, changed_same, same))

  shut_turns : Turns k p.name None 0 g (shut k p g)
  shut_turns = by_room (nat_lt 0 (room_in g))
    where
      by_room : (b : Bool) → Turns k p.name None 0 g (watching None k (if b
          then let_fall p (pack_of g p).cursor (repack_of p (finished_pack (pack_of g p)) g)
          else noting again k (repack_of p (kept_in_hand (pack_of g p)) g)))
      by_room true = watched_turns None (finished_pack (pack_of g p)) _ (omega arith) refl
          (fallen_same p (pack_of g p).cursor (repack_of p (finished_pack (pack_of g p)) g))
      by_room false = watched_turns None (kept_in_hand (pack_of g p)) _ (omega arith) refl
          (noted_same k again (repack_of p (kept_in_hand (pack_of g p)) g))

pub shut_right : (but more : ℕ → Type 0) (k : ℕ) (p : Player) (g : Game) →
    get g.players k ≡ Some p → ((j : ℕ) → j ≢ k → but j → more j) → ShownBut but g →
    ShownBut more (shut k p g)
shut_right but more k p g there free r =
    let t = shut_turns but k p p.chest g (ap (option_map watch_of) there) r in
    renamed k p.name None 0 t.names (stood t.stands r) (λ cell none. absurd cc) free

-- ---- opening

opened_right : (k : ℕ) (p : Player) (was : Option Cell) (cell : Cell) (g : Game) →
    who_in g k ≡ Some (record { name = p.name; chest = was }) → stands_in g cell ≡ true →
    ShownBut nobody g → ShownBut nobody (opened k p cell g)
opened_right k p was cell g at stands r =
    let pack = begun_pack (pack_of g p) in
    let t = watched_turns nobody k p was g at r (Some cell) pack (repack_of p pack g)
    (omega arith) (some_number ((pack_of g p).last % 100)) (same_parts refl refl refl) in
    renamed k p.name (Some cell) pack.window t.names (stood t.stands r)
    (λ other is. subst (λ (x : Cell). stands_in g x ≡ true) (some_is cell other is) stands)
    (λ j ne out. out)
  where
    some_number : (n : ℕ) → true ≡ not (n + 1 == 0)
    some_number n = grind (arith, nat_tests)

pub open_right : (k : ℕ) (p : Player) (cell : Cell) (g : Game) → get g.players k ≡ Some p →
    stands_in g cell ≡ true → ShownBut nobody g → ShownBut nobody (open_chest k p cell g)
open_right k p cell g there stands r = by_shown (is_some p.chest)
  where
    at : who_in g k ≡ Some (watch_of p)
    at = ap (option_map watch_of) there

    by_shown : (b : Bool) → ShownBut nobody (opened k p cell (if b then shut k p g else g))
    by_shown true = (let t = shut_turns nobody k p p.chest g at r in
        opened_right k p None cell (shut k p g) t.here (t.stands cell stands)
        (shut_right nobody nobody k p g there (λ j ne out. out) r))
    by_shown false = opened_right k p p.chest cell g at stands r

-- ---- several

abbrev pub IsAmong : List ℕ → ℕ → Type 0
IsAmong [] j = ⊥
IsAmong (k ∷ ks) j = (j ≡ k) ⊎ IsAmong ks j

-- once the windows of some are closed, who was left out for them is not any more
pub shut_all_right : (ks : List ℕ) (g : Game) → ShownBut (IsAmong ks) g →
    ShownBut nobody (shut_all ks g)
shut_all_right [] g r = r
shut_all_right (k ∷ ks) g r = shut_all_right ks _ (of_cases k g (λ p. shut k p g)
    (ShownBut (IsAmong ks))
    (λ none. restood (λ j a at right. grind (arith, nat_tests, none, at, right)) r)
    (λ p there. shut_right (IsAmong (k ∷ ks)) (IsAmong ks) k p g there
    (λ j ne among. grind (arith, nat_tests, ne, among)) r))

-- ---- leaving

gone_right : (k : ℕ) (p : Player) (g : Game) → get g.players k ≡ Some p → ShownBut nobody g →
    ShownBut nobody (go_of k p (shut k p g))
gone_right k p g there r = renamed k p.name None 0
    (record {
      was = t.names.was;
      is = λ a is. absurd (none_some _ a gone is);
      others = λ j ne. ap (option_map watch_of) (gone_other (shut k p g).players k j ne)
          ∙ t.names.others j ne;
      alone = t.names.alone;
      window = t.names.window;
      rest = t.names.rest;
      number = refl;
      low = t.names.low;
      gone = λ none. refl;
    }) (stood t.stands r) (λ cell none. absurd cc) (λ j ne out. out)
  where
    t : Turns k p.name None 0 g (shut k p g)
    t = shut_turns nobody k p p.chest g (ap (option_map watch_of) there) r

    gone : who_in (go_of k p (shut k p g)) k ≡ None
    gone = ap (option_map watch_of) (gone_same (shut k p g).players k)

pub leave_all_right : (ks : List ℕ) (g : Game) → ShownBut nobody g →
    ShownBut nobody (leave_all ks g)
leave_all_right [] g r = r
leave_all_right (k ∷ ks) g r = leave_all_right ks (leave k g)
    (leave_cases k g (ShownBut nobody) (λ none. r) (λ p there. gone_right k p g there r))
