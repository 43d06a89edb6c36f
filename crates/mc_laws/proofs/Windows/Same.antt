-- What most deeds leave alone of windows: who is shown which chest, and the numbers of windows.
use Rattle.std.proofs.Common.{◌≡◌, ℕ, Bool, true, List, Option, Some}
use Rattle.std.proofs.Common.{None, refl, sym, subst, ap, ◌∙◌, inl, inr, arith}
use Rattle.std.specs.Prelude.{is_some, option_map}
use Rattle.std.proofs.lemmas.Bool.{cases_eq}
use Rattle.std.proofs.lemmas.Bool.Decides.{nat_tests}
use Rattle.std.specs.FinMap.{FinMap, get, get-insert}
use lib.IntN.{ℤ, pos}
use Rattle.mc_fields.specs.declared.position.Cell.{Cell}
use Rattle.mc_slots.specs.declared.pile.Pile.{Pile}
use Rattle.mc_slots.specs.declared.pile.Pile.TheVariants.{Empty, Full}
use Rattle.mc_land.specs.Places.{key_cmp, key_of}
use Rattle.mc_land.proofs.Orders.{keys_total}
use Rattle.mc_windows.specs.Pack.{PackValue}
use Rattle.mc_model.specs.declared.notes.Notes.{Notes}
use Rattle.mc_model.specs.declared.player.Player.{Player}
use Rattle.mc_model.specs.Things.{chest_of_cell, chest_put}
use Rattle.mc_model.specs.Game.{Game, chest_at, pack_of}
use Rattle.mc_model.specs.Deeds.{noting, repack_of, restocked, with_player}
use Rattle.mc_model.specs.Windows.{let_fall}
use Rattle.mc_model.specs.Good.{AreShown, Good}
use Rattle.mc_model.proofs.Maps.Options.{some_is}
use Rattle.mc_model.proofs.Maps.Lookups.{changed_other, changed_same, name_cases}
use Rattle.mc_model.proofs.Maps.Lookups.{name_changed_other, name_changed_same}
use Rattle.mc_laws.proofs.Deeds.Keeping.{names_apart}
use Rattle.mc_laws.proofs.Windows.Watching.{AreRight, IsRight, Watch, stood}

-- ---- what is read of a game

abbrev pub watch_of : Player → Watch
watch_of p = record { name = p.name; chest = p.chest }

abbrev pub who_in : Game → ℕ → Option Watch
who_in g k = option_map watch_of (get g.players k)

abbrev pub number_of : PackValue → ℕ
number_of pack = pack.window

abbrev pub window_in : Game → List ℕ → Option ℕ
window_in g name = option_map number_of (get g.packs name)

abbrev pub stands_in : Game → Cell → Bool
stands_in g cell = is_some (chest_at g cell)

-- the players of all but some connections are shown chests as they should be
abbrev pub ShownBut : (ℕ → Type 0) → Game → Type 0
ShownBut but g = AreRight but (who_in g) (window_in g) (stands_in g)

-- of all
abbrev pub nobody : ℕ → Type 0
nobody k = ⊥

-- what a mapped option was made of
pub record IsMapped {X Y : Type 0} (f : X → Y) (o : Option X) (y : Y) : Type 0 where
  pub value : X
  pub found : o ≡ Some value
  pub is : f value ≡ y

pub unmapped : {X Y : Type 0} (f : X → Y) (o : Option X) (y : Y) → option_map f o ≡ Some y →
    IsMapped f o y
unmapped f None y e = absurd cc
unmapped f (Some x) y e = record { value = x; found = refl; is = some_is (f x) y e }

pub shown_right : (g : Game) → Good g → AreShown g → ShownBut nobody g
shown_right g w s = record {
  apart = λ j k a b is too ne same.
      let p = unmapped watch_of (get g.players j) a is in
      let q = unmapped watch_of (get g.players k) b too in
      names_apart g.entities g.eids g.packs p.value q.value (w.own j p.value p.found)
      (w.own k q.value q.found) (w.apart j k p.value q.value p.found q.found ne)
      (ap (λ (x : Watch). x.name) p.is ∙ same ∙ ap (λ (x : Watch). x.name) (sym q.is));
  carries = λ k a is.
      let p = unmapped watch_of (get g.players k) a is in
      ap (λ (x : Watch). is_some (window_in g x.name)) (sym p.is)
      ∙ ap (λ (o : Option PackValue). is_some (option_map number_of o))
      (w.own k p.value p.found).carries;
  right = λ k a is.
      let p = unmapped watch_of (get g.players k) a is in
      let shown = s.shown k p.value p.found in
      inl (subst (IsRight (window_in g) (stands_in g)) p.is (record {
        number = grind (arith, nat_tests, shown.number);
        there = shown.stands;
      }));
  numbers = λ name n is. grind (arith, nat_tests, is, s.numbers name);
  kept = λ name n is none.
      let pack = unmapped number_of (get g.packs name) n is in
      sym pack.is ∙ s.kept name pack.value pack.found
      (λ k p there. none k (watch_of p) (ap (option_map watch_of) there));
}

pub right_shown : (g : Game) → ShownBut nobody g → AreShown g
right_shown g r = record {
  shown = λ k p there. elim (r.right k (watch_of p) (ap (option_map watch_of) there)) [
    | inl right ↦ record {
      number = grind (arith, nat_tests, right.number);
      stands = right.there;
    }
    | inr none ↦ absurd none
  ];
  numbers = λ name pack is. r.numbers name pack.window (ap (option_map number_of) is);
  kept = λ name pack is none. r.kept name pack.window (ap (option_map number_of) is)
      (λ k a there same.
      let p = unmapped watch_of (get g.players k) a there in
      none k p.value p.found (ap (λ (x : Watch). x.name) p.is ∙ same));
}

-- ---- two games with the same windows

-- chests may be more in the second
pub record SameWindows (g v : Game) : Type 0 where
  pub who : (k : ℕ) → who_in v k ≡ who_in g k
  pub windows : (name : List ℕ) → window_in v name ≡ window_in g name
  pub stands : (cell : Cell) → stands_in g cell ≡ true → stands_in v cell ≡ true

pub same_right : (but : ℕ → Type 0) (g v : Game) → SameWindows g v → ShownBut but g →
    ShownBut but v
same_right but g v s r =
    subst (λ (f : ℕ → Option Watch). AreRight but f (window_in v) (stands_in v))
    (λ i. λ k. sym (s.who k) i)
    (subst (λ (f : List ℕ → Option ℕ). AreRight but (who_in g) f (stands_in v))
    (λ i. λ name. sym (s.windows name) i)
    (stood s.stands r))

pub same_parts : {g v : Game} → v.players ≡ g.players → v.packs ≡ g.packs → v.chests ≡ g.chests →
    SameWindows g v
same_parts players packs chests = record {
  who = λ k. ap (λ m. option_map watch_of (get m k)) players;
  windows = λ name. ap (λ m. option_map number_of (get m name)) packs;
  stands = λ cell is.
      ap (λ m. is_some (chest_of_cell m cell.x cell.y cell.z)) chests ∙ is;
}

pub same_on : {g u v : Game} → SameWindows g u → SameWindows u v → SameWindows g v
same_on a b = record {
  who = λ k. b.who k ∙ a.who k;
  windows = λ name. b.windows name ∙ a.windows name;
  stands = λ cell is. b.stands cell (a.stands cell is);
}

-- ---- deeds

-- a player changes, and is shown what it was
pub touched_same : (k : ℕ) (f : Player → Player) → ((p : Player) → watch_of (f p) ≡ watch_of p) →
    (g : Game) → SameWindows g (with_player k f g)
touched_same k f like g = record {
  who = λ j. grind (arith, nat_tests, cases_eq j k, changed_same, changed_other, like);
  windows = λ name. refl;
  stands = λ cell is. is;
}

pub noted_same : (k : ℕ) (f : Notes → Notes) (g : Game) → SameWindows g (noting f k g)
noted_same k f g = touched_same k (λ (p : Player). record p { notes = f p.notes }) (λ p. refl) g

-- it carries a pack whose window has the same number
pub repacked_same : (p : Player) (pack : PackValue) (g : Game) →
    pack.window ≡ (pack_of g p).window → SameWindows g (repack_of p pack g)
repacked_same p pack g same = record {
  who = λ k. refl;
  windows = λ name. grind (
    arith,
    nat_tests,
    name_cases name p.name,
    name_changed_same,
    name_changed_other,
    same,
  );
  stands = λ cell is. is;
}

-- something falls, or nothing
pub fallen_same : (p : Player) (pile : Pile) (g : Game) → SameWindows g (let_fall p pile g)
fallen_same p Empty g = same_parts refl refl refl
fallen_same p (Full item) g = same_parts refl refl refl

-- what lies in a chest is another
stands_still : (chests : FinMap key_cmp (List Pile)) (piles : List Pile) (x y z a b c : ℤ) →
    is_some (chest_of_cell chests a b c) ≡ true →
    is_some (chest_of_cell (chest_put chests x y z piles) a b c) ≡ true
stands_still chests piles x (pos y) z a (pos b) c is =
    grind (arith, nat_tests, get-insert keys_total chests (key_of x y z) piles (key_of a b c))
stands_still chests piles x y z a b c is = grind (arith, nat_tests)

pub restocked_same : (cell : Cell) (piles : List Pile) (g : Game) →
    SameWindows g (restocked cell piles g)
restocked_same cell piles g = record {
  who = λ k. refl;
  windows = λ name. refl;
  stands = λ q is. stands_still g.chests piles cell.x cell.y cell.z q.x q.y q.z is;
}
