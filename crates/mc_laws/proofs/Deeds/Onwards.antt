-- What each deed of a player leaves of a game as it was: who is in play, and of each other player
-- all but what is noted for it. That games stay good is in `Goods`.
use Rattle.std.proofs.Common.{◌≡◌, ◌≢◌, ℕ, ◌≤◌, List, Option, Some, None, refl}
use Rattle.std.proofs.Common.{sym, ap, ◌∙◌, arith}
use Rattle.std.specs.Prelude.{is_some, option_map}
use Rattle.std.specs.FinMap.{get, len}
use Rattle.mc_fields.specs.declared.position.Spot.{Spot}
use Rattle.mc_slots.specs.declared.pile.Item.{Item}
use Rattle.mc_windows.specs.Pack.{PackValue}
use Rattle.mc_model.specs.declared.player.Player.{Player}
use Rattle.mc_model.specs.Things.{in_hand, holding, standing}
use Rattle.mc_model.specs.Game.{Game, pack_of}
use Rattle.mc_model.specs.Deeds.{rehand_of, repack_of, stand_of, thrown}
use Rattle.mc_model.specs.Apart.{traits_of}
use Rattle.mc_model.specs.Fitting.{GivenKinds}
use Rattle.mc_model.proofs.Lasting.{Since}
use Rattle.mc_model.proofs.LastingKept.{holding_steady, since_mapped, since_more, standing_steady}
use Rattle.mc_model.proofs.LastingKept.{steady_at}
use Rattle.mc_laws.proofs.EachValue.{AreChanged, many_changed, mapped_itself, only, only_changed}
use Rattle.mc_laws.proofs.EachValue.{only_holds}

abbrev pub name_of : Player → List ℕ
name_of p = p.name

-- what the player of a connection makes of a game
pub record Onward (k : ℕ) (g v : Game) : Type 0 where
  pub keys : (j : ℕ) → is_some (get v.players j) ≡ is_some (get g.players j)
  pub traits : (j : ℕ) → j ≢ k →
      option_map traits_of (get v.players j) ≡ option_map traits_of (get g.players j)
  pub names : (j : ℕ) →
      option_map name_of (get v.players j) ≡ option_map name_of (get g.players j)
  pub many : len v.players ≡ len g.players
  -- an entity stays of its kind
  pub since : (old : GivenKinds) → Since old g.eids g.entities → Since old v.eids v.entities
  pub settings : v.settings ≡ g.settings
  pub age : v.age ≡ g.age
  pub more : g.eids ≤ v.eids

pub so : (k : ℕ) (g v u : Game) → Onward k g v → Onward k v u → Onward k g u
so k g v u a b = record {
  keys = λ j. b.keys j ∙ a.keys j;
  traits = λ j ne. b.traits j ne ∙ a.traits j ne;
  names = λ j. b.names j ∙ a.names j;
  many = b.many ∙ a.many;
  since = λ old since. b.since old (a.since old since);
  settings = b.settings ∙ a.settings;
  age = b.age ∙ a.age;
  more = (let m = a.more in let n = b.more in omega (arith, m, n));
}

-- ---- of players

-- each player's record is changed by what keeps its name, and of another's all but the notes
pub players_on : (k : ℕ) (g v : Game) (f : ℕ → Player → Player) →
    ((j : ℕ) (p : Player) → (f j p).name ≡ p.name) →
    ((j : ℕ) → j ≢ k → (p : Player) → traits_of (f j p) ≡ traits_of p) →
    AreChanged f g.players v.players → v.settings ≡ g.settings → v.age ≡ g.age →
    g.eids ≤ v.eids → ((old : GivenKinds) → Since old g.eids g.entities →
    Since old v.eids v.entities) → Onward k g v
players_on k g v f names traits are settings age more since = record {
  keys = λ j. ap is_some (are j) ∙ there (f j) (get g.players j);
  traits = λ j ne. ap (option_map traits_of) (are j) ∙ same traits_of (f j) (traits j ne)
      (get g.players j);
  names = λ j. ap (option_map name_of) (are j) ∙ same name_of (f j) (names j) (get g.players j);
  many = many_changed f g.players v.players are;
  since = since;
  settings = settings;
  age = age;
  more = more;
}
  where
    there : (h : Player → Player) (o : Option Player) → is_some (option_map h o) ≡ is_some o
    there h None = refl
    there h (Some p) = refl

    same : {X : Type 0} (trait : Player → X) (h : Player → Player) →
        ((p : Player) → trait (h p) ≡ trait p) → (o : Option Player) →
        option_map trait (option_map h o) ≡ option_map trait o
    same trait h keeps None = refl
    same trait h keeps (Some p) = ap Some (keeps p)

-- none is changed
others_on : (k : ℕ) (g v : Game) → v.players ≡ g.players → v.settings ≡ g.settings →
    v.age ≡ g.age → g.eids ≤ v.eids → ((old : GivenKinds) → Since old g.eids g.entities →
    Since old v.eids v.entities) → Onward k g v
others_on k g v same = players_on k g v (λ j p. p) (λ j p. refl) (λ j ne p. refl)
    (λ j. ap (λ m. get m j) same ∙ sym (mapped_itself (get g.players j)))

-- what is a cell's and what is said touch no player and no entity
pub same_on : (k : ℕ) (g v : Game) → v.players ≡ g.players → v.settings ≡ g.settings →
    v.age ≡ g.age → v.eids ≡ g.eids → v.entities ≡ g.entities → Onward k g v
same_on k g v same settings age eids entities = others_on k g v same settings age
    (omega (arith, eids)) (λ old since. rw (eids, entities) since)

pub repack_on : (k : ℕ) (p : Player) (pack : PackValue) (g : Game) → Onward k g (repack_of p pack g)
repack_on k p pack g = others_on k g (repack_of p pack g) refl refl refl (omega arith)
    (λ old since. since_mapped _ g.entities
    (steady_at p.eid (holding (in_hand pack p.hand)) (holding_steady _)) since)

pub rehand_on : (k : ℕ) (p : Player) (hand : ℕ) (g : Game) → Onward k g (rehand_of k p hand g)
rehand_on k p hand g = players_on k g (rehand_of k p hand g) (only k takes)
    (λ j q. only_holds (λ (r : Player). r.name ≡ q.name) k takes j q (λ same. refl) refl)
    (λ j ne q. only_holds (λ (r : Player). traits_of r ≡ traits_of q) k takes j q
    (λ same. absurd (ne same)) refl)
    (only_changed k takes g.players) refl refl (omega arith) (λ old since. since_mapped _ g.entities
    (steady_at p.eid (holding (in_hand (pack_of g p) hand)) (holding_steady _)) since)
  where
    takes : Player → Player
    takes q = record q { hand = hand }

pub stand_on : (k : ℕ) (p : Player) (spot : Spot) (g : Game) → Onward k g (stand_of p spot g)
stand_on k p spot g = others_on k g (stand_of p spot g) refl refl refl (omega arith)
    (λ old since. since_mapped _ g.entities
    (steady_at p.eid (standing spot) (standing_steady spot)) since)

-- ---- of all

pub thrown_on : (k : ℕ) (item : Item) (spot : Spot) (g : Game) → Onward k g (thrown item spot g)
thrown_on k item spot g = others_on k g (thrown item spot g) refl refl refl (omega arith)
    (λ old since. since_more _ spot g.entities since)
