-- What is left of a game that players leave, one or several.
use Rattle.std.proofs.Common.{◌≡◌, ◌≢◌, ℕ, ◌≤◌, Bool, true, false, cond, List, [], ◌∷◌}
use Rattle.std.proofs.Common.{Some, None, refl, sym, ◌∙◌, inl, inr, arith}
use Rattle.std.specs.Prelude.{◌&&◌, nat_lt, if◌then◌else◌}
use Rattle.std.proofs.lemmas.Bool.{cases_eq}
use Rattle.std.proofs.lemmas.Bool.Decides.{nat_tests}
use Rattle.std.specs.List.{filter, fold, list_any}
use Rattle.std.specs.Ordering.{nat_cmp, eq_by_cmp}
use Rattle.std.specs.FinMap.{contains_key-keys, empty, get, keys, remove}
use lib.IntN.{pos}
use Rattle.mc_slots.specs.declared.pile.Pile.{Pile}
use Rattle.mc_slots.specs.declared.pile.Pile.TheVariants.{Empty, Full}
use Rattle.mc_windows.specs.Pack.{finished_pack}
use Rattle.mc_model.specs.declared.player.Player.{Player}
use Rattle.mc_model.specs.Notes.{again}
use Rattle.mc_model.specs.Game.{Game, pack_of, room_in}
use Rattle.mc_model.specs.Deeds.{go_of, noting, repack_of, watching}
use Rattle.mc_model.specs.Leaving.{leave, leave_all}
use Rattle.mc_model.specs.Windows.{kept_in_hand, let_fall, shut}
use Rattle.mc_model.specs.Good.{AreChests, Good}
use Rattle.mc_model.specs.Fitting.{Told}
use Rattle.mc_model.proofs.Maps.Lookups.{gone_other, gone_same, maps_alike, tied_number}
use Rattle.mc_model.proofs.Maps.Lookups.{untied_number}
use Rattle.mc_laws.proofs.Deeds.Chests.{same_chests}
use Rattle.mc_laws.proofs.Deeds.Coming.{go_good}
use Rattle.mc_laws.proofs.Deeds.Shutting.{closed, of_cases, shut_good, shut_here, shut_on}
use Rattle.mc_laws.proofs.Deeds.Shutting.{shut_other, shut_told}
use Rattle.mc_laws.proofs.Fits.Told.{without_told}

-- What holds of a game without its player, and of one where it has one, whose window closed and
-- which goes then, holds of the game that it leaves.
pub leave_cases : (k : ℕ) (g : Game) (P : Game → Type 0) → (get g.players k ≡ None → P g) →
    ((p : Player) → get g.players k ≡ Some p → P (go_of k p (shut k p g))) → P (leave k g)
unfolding leave
leave_cases k g P none some = of_cases k g (λ p. go_of k p (shut k p g)) P none some

pub leave_good : (k : ℕ) (g : Game) → Good g → Good (leave k g)
leave_good k g w = leave_cases k g Good (λ none. w) (λ p there.
    go_good k (closed (nat_lt 0 (room_in g)) p) (shut k p g) (shut_here k p g there)
    (shut_good k p g there w))

pub leave_told : (k : ℕ) (g : Game) → Good g → Told g → Told (leave k g)
leave_told k g w t = leave_cases k g (λ (v : Game). Told v) (λ none. t) (λ p there.
    let v : Game = shut k p g in
    without_told (pos p.eid) v.edits v.entities v.eids (shut_told k p g there w t))

pub leave_same : (k : ℕ) (g : Game) → get (leave k g).players k ≡ None
leave_same k g = leave_cases k g (λ (v : Game). get v.players k ≡ None) (λ none. none)
    (λ p there. gone_same (shut k p g).players k)

pub leave_other : (k j : ℕ) (g : Game) → j ≢ k → get (leave k g).players j ≡ get g.players j
leave_other k j g ne = leave_cases k g (λ (v : Game). get v.players j ≡ get g.players j)
    (λ none. refl)
    (λ p there. gone_other (shut k p g).players k j ne ∙ shut_other k j p g ne)

-- so it is taken out of those in play
pub leave_players : (k : ℕ) (g : Game) → (leave k g).players ≡ remove g.players k
leave_players k g = maps_alike (leave k g).players (remove g.players k) (λ q.
    elim (cases_eq q k) [
      | inl same ↦ rw same (leave_same k g ∙ sym (gone_same g.players k))
      | inr ne ↦ leave_other k q g ne ∙ sym (gone_other g.players k q ne)
    ])

-- no number of an entity is given back
pub leave_more : (k : ℕ) (g : Game) → g.eids ≤ (leave k g).eids
leave_more k g = leave_cases k g (λ (v : Game). g.eids ≤ v.eids) (λ none. omega arith)
    (λ p there. (shut_on k p g there).more)

-- where there is nobody, nothing changes
pub leave_nobody : (k : ℕ) (g : Game) → get g.players k ≡ None → leave k g ≡ g
leave_nobody k g none = leave_cases k g (λ (v : Game). v ≡ g) (λ is. refl)
    (λ p there. let clash = sym none ∙ there in absurd cc)

-- ---- what stays

-- a game without its entities and packs
abbrev pub bare : Game → Game
bare g = record g { entities = []; packs = empty }

-- and without its players and the numbers of entities, too
abbrev pub unplayed : Game → Game
unplayed g = record (bare g) { eids = 0; players = empty }

-- what is read of two games that are the same without these
pub record Stays (g v : Game) : Type 0 where
  pub settings : v.settings ≡ g.settings
  pub age : v.age ≡ g.age
  pub edits : v.edits ≡ g.edits
  pub chests : v.chests ≡ g.chests
  pub lines : v.lines ≡ g.lines

-- and of two that are the same but for entities and packs
pub record Leaves (g v : Game) : Type 0 where
  pub settings : v.settings ≡ g.settings
  pub age : v.age ≡ g.age
  pub edits : v.edits ≡ g.edits
  pub chests : v.chests ≡ g.chests
  pub eids : v.eids ≡ g.eids
  pub lines : v.lines ≡ g.lines
  pub players : v.players ≡ g.players

stays_so : (g v : Game) → unplayed v ≡ unplayed g → Stays g v
stays_so g v same = record {
  settings = λ i. (same i).settings;
  age = λ i. (same i).age;
  edits = λ i. (same i).edits;
  chests = λ i. (same i).chests;
  lines = λ i. (same i).lines;
}

pub leaves_so : (g v : Game) → bare v ≡ bare g → Leaves g v
leaves_so g v same = record {
  settings = λ i. (same i).settings;
  age = λ i. (same i).age;
  edits = λ i. (same i).edits;
  chests = λ i. (same i).chests;
  eids = λ i. (same i).eids;
  lines = λ i. (same i).lines;
  players = λ i. (same i).players;
}

pub leaves_on : (g u v : Game) → Leaves g u → Leaves u v → Leaves g v
leaves_on g u v a b = record {
  settings = b.settings ∙ a.settings;
  age = b.age ∙ a.age;
  edits = b.edits ∙ a.edits;
  chests = b.chests ∙ a.chests;
  eids = b.eids ∙ a.eids;
  lines = b.lines ∙ a.lines;
  players = b.players ∙ a.players;
}

-- what each step of a fold keeps, all of them keep
pub fold_keeps : {A : Type 0} (R : Game → Game → Type 0) → ((g : Game) → R g g) →
    ((g u v : Game) → R g u → R u v → R g v) → (f : Game → A → Game) →
    ((g : Game) (x : A) → R g (f g x)) → (xs : List A) (g : Game) → R g (fold f g xs)
fold_keeps R none on f each [] g = none g
fold_keeps R none on f each (x ∷ xs) g =
    on g (f g x) _ (each g x) (fold_keeps R none on f each xs (f g x))

shut_unplayed : (k : ℕ) (p : Player) (g : Game) → unplayed (shut k p g) ≡ unplayed g
shut_unplayed k p g = step (nat_lt 0 (room_in g)) (pack_of g p).cursor
  where
    step : (b : Bool) (pile : Pile) → unplayed (watching None k
        (if b then let_fall p pile (repack_of p (finished_pack (pack_of g p)) g)
        else noting again k (repack_of p (kept_in_hand (pack_of g p)) g))) ≡ unplayed g
    step true Empty = refl
    step true (Full item) = refl
    step false pile = refl

pub leave_all_stays : (ks : List ℕ) (g : Game) → Stays g (leave_all ks g)
leave_all_stays ks g = stays_so g (leave_all ks g)
    (fold_keeps (λ h v. unplayed v ≡ unplayed h) (λ h. refl) (λ h u v a b. b ∙ a)
    (λ (h : Game) (k : ℕ). leave k h) (λ h k.
    leave_cases k h (λ (v : Game). unplayed v ≡ unplayed h) (λ none. refl)
    (λ p there. shut_unplayed k p h)) ks g)

pub leave_stays : (k : ℕ) (g : Game) → Stays g (leave k g)
leave_stays k = leave_all_stays (k ∷ [])

pub leave_chests : (k : ℕ) (g : Game) → AreChests g → AreChests (leave k g)
leave_chests k g a = (let s = leave_stays k g in same_chests s.settings s.edits s.chests a)

-- ---- several

pub leave_all_good : (ks : List ℕ) (g : Game) → Good g → Good (leave_all ks g)
leave_all_good [] g w = w
leave_all_good (k ∷ ks) g w = leave_all_good ks (leave k g) (leave_good k g w)

pub leave_all_told : (ks : List ℕ) (g : Game) → Good g → Told g → Told (leave_all ks g)
leave_all_told [] g w t = t
leave_all_told (k ∷ ks) g w t =
    leave_all_told ks (leave k g) (leave_good k g w) (leave_told k g w t)

pub leave_all_chests : (ks : List ℕ) (g : Game) → AreChests g → AreChests (leave_all ks g)
leave_all_chests ks g a =
    (let s = leave_all_stays ks g in same_chests s.settings s.edits s.chests a)

-- who is among them that pass a test has no player any more
pub left_all : (test : ℕ → Bool) (ks : List ℕ) (g : Game) (j : ℕ) →
    get (leave_all (filter test ks) g).players j
    ≡ cond (list_any (eq_by_cmp nat_cmp j) ks && test j) None (get g.players j)
left_all test [] g j = refl
left_all test (k ∷ ks) g j = grind (
  arith,
  nat_tests,
  cases_eq j k,
  tied_number j,
  untied_number j k,
  leave_same k g,
  leave_other k j g,
  left_all test ks g j,
  left_all test ks (leave k g) j,
)

-- of those in play that pass a test nobody is left
pub left_of_all : (test : ℕ → Bool) (g : Game) (j : ℕ) →
    get (leave_all (filter test (keys g.players)) g).players j
    ≡ cond (test j) None (get g.players j)
left_of_all test g j = grind (
  arith,
  nat_tests,
  left_all test (keys g.players) g j,
  contains_key-keys g.players j,
)
