-- Of which deeds an act is made, and what each of them rests on: the one relation that the laws of
-- acts are proved by. An act is shown to be made of deeds once; each law is one of deeds.
use Rattle.std.proofs.Common.{◌≡◌, ◌≢◌, ℕ, ◌+◌, ◌*◌, ◌<◌, ◌≤◌, true, List, [], ◌∷◌}
use Rattle.std.proofs.Common.{Some, refl, ◌∙◌, arith}
use Rattle.std.specs.Prelude.{is_some}
use Rattle.std.specs.FinMap.{get}
use Rattle.mc_fields.specs.declared.position.Cell.{Cell}
use Rattle.mc_fields.specs.declared.position.Spot.{Spot}
use Rattle.mc_slots.specs.declared.pile.Item.{Item}
use Rattle.mc_slots.specs.declared.pile.Pile.{Pile}
use Rattle.mc_slots.specs.declared.pile.Pile.TheVariants.{Full}
use Rattle.mc_slots.specs.Chest.{IsChest}
use Rattle.mc_slots.specs.Pile.{Sort, held}
use Rattle.mc_windows.specs.Pack.{PackValue, IsPack}
use Rattle.mc_windows.specs.Stock.{in_chest, in_pack, in_piles}
use Rattle.mc_entities.specs.declared.entity.EntityKind.TheVariants as kinds
use Rattle.mc_model.specs.declared.notes.Notes.{Notes}
use Rattle.mc_model.specs.declared.player.Player.{Player}
use Rattle.mc_model.specs.Apart.{traits_of}
use Rattle.mc_model.specs.Balance.{one_of, sort_of}
use Rattle.mc_model.specs.Deeds.{noting, rehand_of, repack_of, restocked, said, stand_of, thrown}
use Rattle.mc_model.specs.Deeds.{with_player, with_state}
use Rattle.mc_model.specs.Game.{Game, chest_at, pack_of, state_in}
use Rattle.mc_model.specs.Reach.{is_in_world}
use Rattle.mc_model.specs.Fitting.{IsState, SpotFits}
use Rattle.mc_model.proofs.FitsChat.{LineFits}
use Rattle.mc_model.proofs.FitsNotes.{NotesFit}
use Rattle.mc_laws.proofs.EachValue.{AreChanged, only, only_changed, only_holds}
use Rattle.mc_laws.proofs.Deeds.Keeping.{IsLike}
use Rattle.mc_laws.proofs.Fits.Told.{CanCome}

-- What the player of a connection may change of players' records by itself: their names, numbers
-- and hands stay, and of others all but the notes.
pub record Touches (k : ℕ) (f : ℕ → Player → Player) : Type 0 where
  pub like : (j : ℕ) (p : Player) → IsLike (f j p) p
  pub traits : (j : ℕ) → j ≢ k → (p : Player) → traits_of (f j p) ≡ traits_of p

-- packets can tell what is noted still
abbrev pub KeepsNotes : (Player → Player) → Type 0
KeepsNotes f = (p : Player) → NotesFit p.notes → NotesFit (f p).notes

-- land, chests, entities, packs and what is said are left alone
pub record LeavesRest (g v : Game) : Type 0 where
  pub settings : v.settings ≡ g.settings
  pub age : v.age ≡ g.age
  pub edits : v.edits ≡ g.edits
  pub chests : v.chests ≡ g.chests
  pub entities : v.entities ≡ g.entities
  pub eids : v.eids ≡ g.eids
  pub packs : v.packs ≡ g.packs
  pub lines : v.lines ≡ g.lines

-- A deed of the player of a connection. Where `G` is given games stay good, where `T` is, packets
-- can tell them, where `H` is, what is said, and where both are, what is noted. The pack may be
-- another player's, whose window closes. Of a deed that touches players' records alone, or what no
-- law reads, all laws are proved once.
pub data Deed (G T H : Type 0) (k : ℕ) (g v : Game) : Type 0 where
  touches : (f : ℕ → Player → Player) → Touches k f → (T → H → (j : ℕ) → KeepsNotes (f j)) →
      LeavesRest g v → AreChanged f g.players v.players → Deed G T H k g v
  repacks : (j : ℕ) (p : Player) (pack : PackValue) → get g.players j ≡ Some p →
      (G → IsPack pack.slots pack.cursor) → v ≡ repack_of p pack g → Deed G T H k g v
  rehands : (p : Player) (hand : ℕ) → get g.players k ≡ Some p → hand < 9 →
      v ≡ rehand_of k p hand g → Deed G T H k g v
  stands : (p : Player) (spot : Spot) → get g.players k ≡ Some p → (T → SpotFits spot) →
      v ≡ stand_of p spot g → Deed G T H k g v
  throws : (item : Item) (spot : Spot) →
      (T → CanCome (kinds.Dropped item g.age) spot g.entities g.eids) →
      v ≡ thrown item spot g → Deed G T H k g v
  sets : (cell : Cell) (state : ℕ) → is_in_world cell ≡ true → (T → IsState state) →
      v ≡ with_state cell state g → Deed G T H k g v
  restocks : (cell : Cell) (piles : List Pile) → is_some (chest_at g cell) ≡ true →
      (G → IsChest piles) → v ≡ restocked cell piles g → Deed G T H k g v
  says : (line : List ℕ) → (H → LineFits line) → v ≡ said line g → Deed G T H k g v

module _ (G T H : Type 0) (k : ℕ) where
  -- how many items of a sort a deed takes away, and how many it leaves
  abbrev pub spent : (id damage : ℕ) (g v : Game) → Deed G T H k g v → ℕ
  spent id damage g v (repacks j p pack there is same) = in_pack (sort_of id damage) (pack_of g p)
  spent id damage g v (sets cell state inside is same) =
      one_of (16 * id + damage) (state_in g cell)
      + in_chest (sort_of id damage) (chest_at g cell)
  spent id damage g v (restocks cell piles there are same) =
      in_chest (sort_of id damage) (chest_at g cell)
  spent id damage g v other = 0

  abbrev pub gained : (id damage : ℕ) (g v : Game) → Deed G T H k g v → ℕ
  gained id damage g v (repacks j p pack there is same) = in_pack (sort_of id damage) pack
  gained id damage g v (throws item spot can same) = held (sort_of id damage) (Full item)
  gained id damage g v (sets cell state inside is same) = one_of (16 * id + damage) state
      + in_chest (sort_of id damage) (chest_at (with_state cell state g) cell)
  gained id damage g v (restocks cell piles there are same) = in_piles (sort_of id damage) piles
  gained id damage g v other = 0

  -- deeds one after another, and the games behind them
  abbrev pub AreDeeds : Game → List Game → Game → Type 0
  AreDeeds g [] v = v ≡ g
  AreDeeds g (u ∷ us) v = Deed G T H k g u × AreDeeds u us v

  abbrev pub all_spent : (id damage : ℕ) (g : Game) (us : List Game) (v : Game) →
      AreDeeds g us v → ℕ
  all_spent id damage g [] v are = 0
  all_spent id damage g (u ∷ us) v are =
      spent id damage g u are.0 + all_spent id damage u us v are.1

  abbrev pub all_gained : (id damage : ℕ) (g : Game) (us : List Game) (v : Game) →
      AreDeeds g us v → ℕ
  all_gained id damage g [] v are = 0
  all_gained id damage g (u ∷ us) v are =
      gained id damage g u are.0 + all_gained id damage u us v are.1

  -- a game is made of another by deeds that leave so many more items than they take away
  pub record MadeWith (more : Sort → ℕ) (g v : Game) : Type 0 where
    pub games : List Game
    pub deeds : AreDeeds g games v
    pub even : G → (id damage : ℕ) → 1 ≤ id → damage ≤ 15 →
        all_spent id damage g games v deeds + more (sort_of id damage)
        ≡ all_gained id damage g games v deeds

  -- that leave as many
  abbrev pub Made : Game → Game → Type 0
  Made g v = MadeWith (λ (sort : Sort). 0) g v

  pub untouched : (g : Game) → Made g g
  untouched g = record { games = []; deeds = refl; even = λ good id damage some low. refl }

  -- a deed before others: what it leaves more than it takes away, they leave less
  pub first : (more less : Sort → ℕ) (g u v : Game) (deed : Deed G T H k g u) →
      (G → (id damage : ℕ) → 1 ≤ id → damage ≤ 15 →
      spent id damage g u deed + more (sort_of id damage)
      ≡ gained id damage g u deed + less (sort_of id damage)) →
      MadeWith less u v → MadeWith more g v
  first more less g u v deed even later = record {
    games = u ∷ later.games;
    deeds = (deed, later.deeds);
    even = λ good id damage some low. (let one = even good id damage some low in
        let rest = later.even good id damage some low in
        omega (arith, one, rest));
  }

  -- one that takes away as much as it leaves, before others or alone
  pub before : (g u v : Game) (deed : Deed G T H k g u) →
      ((id damage : ℕ) → spent id damage g u deed ≡ gained id damage g u deed) → Made u v →
      Made g v
  before g u v deed even later = first (λ (sort : Sort). 0) (λ (sort : Sort). 0) g u v deed
      (λ good id damage some low. let same = even id damage in omega (arith, same)) later

  pub by_deed : (g v : Game) (deed : Deed G T H k g v) →
      ((id damage : ℕ) → spent id damage g v deed ≡ gained id damage g v deed) → Made g v
  by_deed g v deed even = before g v v deed even (untouched v)

  -- the record of one connection's player changes
  abbrev pub touch : (j : ℕ) (f : Player → Player) → ((p : Player) → IsLike (f p) p) →
      (j ≢ k → (p : Player) → traits_of (f p) ≡ traits_of p) → (T → H → KeepsNotes f) →
      (g : Game) → Deed G T H k g (with_player j f g)
  touch j f like traits fits g = touches (only j f)
      (record {
        like = λ i p. only_holds (λ (q : Player). IsLike q p) j f i p (λ same. like p)
            (record { eid = refl; uuid = refl; name = refl; hand = refl });
        traits = λ i ne p. only_holds (λ (q : Player). traits_of q ≡ traits_of p) j f i p
            (λ same. traits (λ own. ne (same ∙ own)) p) refl;
      })
      (λ t h i p fit. only_holds (λ (q : Player). NotesFit q.notes) j f i p
      (λ same. fits t h p fit) fit)
      (record {
        settings = refl;
        age = refl;
        edits = refl;
        chests = refl;
        entities = refl;
        eids = refl;
        packs = refl;
        lines = refl;
      }) (only_changed j f g.players)

  pub by_own : (f : Player → Player) → ((p : Player) → IsLike (f p) p) →
      (T → H → KeepsNotes f) → (g : Game) → Made g (with_player k f g)
  by_own f like fits g = by_deed g (with_player k f g)
      (touch k f like (λ ne. absurd (ne refl)) fits g) (λ id damage. refl)

  -- something is noted for the client of any connection
  abbrev pub notes : (j : ℕ) (f : Notes → Notes) →
      (T → H → (n : Notes) → NotesFit n → NotesFit (f n)) → (g : Game) →
      Deed G T H k g (noting f j g)
  notes j f fits g = touch j (λ (p : Player). record p { notes = f p.notes })
      (λ p. record { eid = refl; uuid = refl; name = refl; hand = refl }) (λ ne p. refl)
      (λ t h p fit. fits t h p.notes fit) g

  pub by_notes : (j : ℕ) (f : Notes → Notes) →
      (T → H → (n : Notes) → NotesFit n → NotesFit (f n)) → (g : Game) → Made g (noting f j g)
  by_notes j f fits g = by_deed g (noting f j g) (notes j f fits g) (λ id damage. refl)
