-- All that can be told holds of a game still after whatever players do, after they come and go, and
-- after a tick.
use Rattle.std.proofs.Common.{◌≡◌, ◌≢◌, ℕ, ◌+◌, ◌<◌, ◌≤◌, true, List, [], ◌∷◌, Option, Some}
use Rattle.std.proofs.Common.{None, refl, sym, subst, ap, length, arith}
use Rattle.std.specs.Prelude.{Bool, false, is_some, not, if◌then◌else◌}
use Rattle.std.specs.List.{AllByRecursion}
use Rattle.std.specs.Cmp.{nat_cmp_total}
use Rattle.std.specs.Ordering.{nat_cmp}
use Rattle.std.specs.FinMap.{get, get-empty, len, len-empty, len-insert, len-remove}
use Rattle.std.proofs.lemmas.Bool.{ltb-true}
use Rattle.std.proofs.lemmas.Bool.Decides.{nat_tests}
use Rattle.std.proofs.lemmas.List.{length-append}
use lib.IntN.{ℤ, pos}
use Rattle.mc_up.specs.declared.play_up.PlayUp.{PlayUp}
use Rattle.mc_up.specs.PlayUp.{FitsPlayUp}
use Rattle.mc_model.specs.declared.cause.Refusal.{Refusal}
use Rattle.mc_model.specs.declared.mobs.TheConstants.{MOBS_MAX}
use Rattle.mc_model.specs.declared.player.Player.{Player}
use Rattle.mc_model.specs.declared.settings.Settings.{Settings as Begun}
use Rattle.mc_entities.specs.declared.entity.Entity.{Entity}
use Rattle.mc_entities.specs.declared.entity.EntityKind.TheVariants as kinds
use Rattle.mc_model.specs.Names.{is_name, offline_uuid}
use Rattle.mc_model.specs.Spots.{spawn_spot}
use Rattle.mc_model.specs.Things.{in_hand}
use Rattle.mc_model.specs.Game.{AreSettings, Game, new_game, pack_named}
use Rattle.mc_model.specs.Minds.{Plans}
use Rattle.mc_model.specs.Deeds.{enter_as, new_player}
use Rattle.mc_model.specs.Leaving.{leave, leave_all}
use Rattle.mc_model.specs.Acts.{act}
use Rattle.mc_model.specs.Tick.{grown, told, told_player}
use Rattle.mc_model.specs.Step.{refusal}
use Rattle.mc_model.specs.Windows.{shut}
use Rattle.mc_model.specs.Good.{Good}
use Rattle.mc_model.proofs.AllFacts.{all_joined}
use Rattle.mc_model.proofs.FitsChat.{LineFits}
use Rattle.mc_model.proofs.FitsText.{IsShort, both_true, name_short}
use Rattle.mc_model.proofs.Maps.Options.{none_some}
use Rattle.mc_model.proofs.FitsNotes.{no_notes_fit}
use Rattle.mc_laws.proofs.EachValue.{AllValues, all_changed, all_gone, all_put, many_changed, only}
use Rattle.mc_laws.proofs.EachValue.{only_changed, only_holds}
use Rattle.mc_laws.proofs.ThingsFit.{PlayerIsTold}
use Rattle.mc_laws.proofs.Deeds.Chests.{GoodGame, new_chests, same_chests}
use Rattle.mc_laws.proofs.Deeds.Coming.{enter_good}
use Rattle.mc_laws.proofs.Deeds.Kept.{deeds_keep}
use Rattle.mc_laws.proofs.Deeds.Leaving.{leave_cases, leave_chests, leave_good, leave_players}
use Rattle.mc_laws.proofs.Deeds.Leaving.{leave_stays, leave_told}
use Rattle.mc_laws.proofs.Deeds.Made.{Deed, rehands, repacks, restocks, says, sets, stands, throws}
use Rattle.mc_laws.proofs.Deeds.Made.{touches}
use Rattle.mc_laws.proofs.Deeds.Shutting.{shut_good, shut_here, shut_on, shuts}
use Rattle.mc_laws.proofs.Acts.ActMade.{Speaks, act_made}
use Rattle.mc_laws.proofs.Acts.ActOn.{act_good, act_on}
use Rattle.mc_laws.proofs.Walk.Each.{told_good, told_players}
use Rattle.mc_laws.proofs.Fits.Told.{dropped_come}
use Rattle.mc_laws.proofs.Fits.Acts.{act_tells, enter_tells}
use Rattle.mc_laws.proofs.Fits.Counted.{IsCounted, body_gone, deeds_count}
use Rattle.mc_laws.proofs.Fits.Clear.{SoundGame}
use Rattle.mc_laws.proofs.Minds.Beginning.{new_few, new_told, new_whole}
use Rattle.mc_laws.proofs.TickRules.{rules_good, rules_leave, tick_rules}

-- ---- what is said

-- all that was said can be told
abbrev AllSaid : Game → Type 0
AllSaid g = AllByRecursion LineFits g.lines

module _ (G T H : Type 0) (k : ℕ) (heard : H) where
  deed_said : (g v : Game) → Deed G T H k g v → AllSaid g → AllSaid v
  deed_said g v (touches f of_players fits rest are) said = rw rest.lines said
  deed_said g v (repacks j p pack there is same) said = subst AllSaid (sym same) said
  deed_said g v (rehands p hand there small same) said = subst AllSaid (sym same) said
  deed_said g v (stands p spot there fits same) said = subst AllSaid (sym same) said
  deed_said g v (throws item spot can same) said = subst AllSaid (sym same) said
  deed_said g v (sets cell state inside is same) said = subst AllSaid (sym same) said
  deed_said g v (restocks cell piles there are same) said = subst AllSaid (sym same) said
  deed_said g v (says line fits same) said = subst AllSaid (sym same)
      (all_joined LineFits g.lines (line ∷ []) said (fits heard, tt))

-- ---- names and notes

-- packets can tell each player
abbrev AllTold : Game → Type 0
AllTold g = AllValues (λ (k : ℕ) (p : Player). PlayerIsTold p) g.players

module _ (G T H : Type 0) (k : ℕ) (told : T) (heard : H) where
  deed_players : (g v : Game) → Deed G T H k g v → AllTold g → AllTold v
  deed_players g v (touches f of_players fits rest are) all = all_changed
      (λ (j : ℕ) (p : Player). PlayerIsTold p) f g.players v.players are (λ j p there. record {
        name = subst (IsShort 16) (sym (of_players.like j p).name) (all j p there).name;
        notes = fits told heard j p (all j p there).notes;
      })
  deed_players g v (repacks j p pack there is same) all = subst AllTold (sym same) all
  deed_players g v (rehands p hand there small same) all = subst AllTold (sym same) (all_changed
      (λ (j : ℕ) (q : Player). PlayerIsTold q) (only k takes) g.players _
      (only_changed k takes g.players)
      (λ j q there. only_holds PlayerIsTold k takes j q
      (λ own. record { name = (all j q there).name; notes = (all j q there).notes })
      (all j q there)))
    where
      takes : Player → Player
      takes q = record q { hand = hand }
  deed_players g v (stands p spot there fits same) all = subst AllTold (sym same) all
  deed_players g v (throws item spot can same) all = subst AllTold (sym same) all
  deed_players g v (sets cell state inside is same) all = subst AllTold (sym same) all
  deed_players g v (restocks cell piles there are same) all = subst AllTold (sym same) all
  deed_players g v (says line fits same) all = subst AllTold (sym same) all

-- ---- acts

pub act_sound : (k : ℕ) (packet : PlayUp) (g v : Game) → FitsPlayUp packet →
    act g k packet ≡ Some v → SoundGame g → SoundGame v
act_sound k packet g v fits e sound =
    let on = act_on k packet g v e in
    let made = (act_made k packet g v e).made in
    let good : GoodGame g = (sound.good, sound.chests) in
    let good_too = act_good k packet g v e good in
    let speaks : Speaks g k packet = ((λ p there. (sound.players k p there).name), fits) in
    record {
      good = good_too.0;
      chests = good_too.1;
      told = act_tells k packet g v e good sound.told;
      settings = subst (λ (s : Begun). AreSettings s.players s.cap) (sym on.settings)
          sound.settings;
      young = (let young = sound.young in let age = on.age in omega (arith, young, age));
      lines = deeds_keep _ _ _ k AllSaid (λ u x deed w. deed_said _ _ _ k speaks u x deed) good g
          made.games v made.deeds sound.good sound.lines;
      few = (let few = sound.few in
          let many = on.many in
          let most = ap (λ (s : Begun). s.players) on.settings in
          omega (arith, few, many, most));
      counted = (let counts = deeds_count _ _ _ k g made.games v made.deeds in
          let counted = sound.counted in
          let many = on.many in
          omega (arith, counts, counted, many));
      players = deeds_keep _ _ _ k AllTold
          (λ u x deed w. deed_players _ _ _ k (good, sound.told) speaks u x deed) good g
          made.games v made.deeds sound.good sound.players;
    }

-- ---- coming

-- who is not refused has a name, and there is room for its player
pub record IsWelcome (g : Game) (name : List ℕ) : Type 0 where
  pub named : is_name name ≡ true
  pub room : len g.players < g.settings.players
  pub numbers : g.eids < 2147483647

-- a test that must pass did
passes : (t : Bool) (why : Refusal) (o : Option Refusal) → (if not t then Some why else o) ≡ None →
    (t ≡ true) × (o ≡ None)
passes true why o e = (refl, e)
passes false why o e = absurd cc

-- a test that must not pass did not
passed_on : (t : Bool) (why : Refusal) (o : Option Refusal) → (if t then Some why else o) ≡ None →
    o ≡ None
passed_on true why o e = absurd cc
passed_on false why o e = e

pub welcome_of : (g : Game) (protocol : ℤ) (name : List ℕ) → refusal g protocol name ≡ None →
    IsWelcome g name
welcome_of g protocol name e = grind (arith, nat_tests, passes, passed_on, both_true, ltb-true)

-- whoever comes brings its entity
enter_counted : (k : ℕ) (name : List ℕ) (g : Game) → get g.players k ≡ None → IsCounted g →
    IsCounted (enter_as k name g)
enter_counted k name g new counted =
    let size = length-append g.entities (comes ∷ []) in
    let lying = dropped_come g.entities comes in
    let none = ap is_some new in
    let added = len-insert nat_cmp_total g.players k
    (new_player (g.eids + 1) name (length g.lines)) in
    grind (arith, size, lying, counted, none, added)
  where
    comes : Entity
    comes = record {
      eid = pos (g.eids + 1);
      kind = kinds.Player (offline_uuid name) (in_hand (pack_named g name) 0);
      spot = spawn_spot g.settings.terrain;
    }

pub enter_sound : (k : ℕ) (name : List ℕ) (g : Game) → IsWelcome g name →
    ((j : ℕ) (q : Player) → get g.players j ≡ Some q → q.uuid ≢ offline_uuid name) →
    get g.players k ≡ None → SoundGame g → SoundGame (enter_as k name g)
enter_sound k name g welcome free new sound = record {
  good = enter_good k name g sound.good free new;
  chests = same_chests refl refl refl sound.chests;
  told = enter_tells k name g welcome.numbers sound.good sound.told;
  settings = sound.settings;
  young = sound.young;
  lines = sound.lines;
  few = (let room = welcome.room in
      let added = len-insert nat_cmp_total g.players k
      (new_player (g.eids + 1) name (length g.lines)) in grind (arith, room, added));
  counted = enter_counted k name g new sound.counted;
  players = all_put (λ (j : ℕ) (p : Player). PlayerIsTold p) g.players sound.players k _
      (record { name = name_short name welcome.named; notes = no_notes_fit });
}

-- ---- going

fewer_gone : (k : ℕ) (g : Game) → len (leave k g).players ≤ len g.players
fewer_gone k g = let is = ap len (leave_players k g) in
    let less = len-remove nat_cmp_total g.players k in grind (arith, is, less)

-- whoever goes takes its entity along
leave_counted : (k : ℕ) (g : Game) → Good g → IsCounted g → IsCounted (leave k g)
leave_counted k g w counted = leave_cases k g IsCounted (λ none. counted) (λ p there.
    (let v : Game = shut k p g in
    let made = shuts k p g there in
    let counts = deeds_count _ _ _ k g made.games v made.deeds in
    let gone = body_gone (pos p.eid) v.entities _
    ((shut_good k p g there w).own k _ (shut_here k p g there)).body refl in
    let less = len-remove nat_cmp_total v.players k in
    let many = (shut_on k p g there).many in
    let one = ap is_some (shut_here k p g there) in
    grind (arith, counts, gone, less, many, one, counted)))

pub leave_sound : (k : ℕ) (g : Game) → SoundGame g → SoundGame (leave k g)
leave_sound k g sound =
    let stays = leave_stays k g in
    record {
      good = leave_good k g sound.good;
      chests = leave_chests k g sound.chests;
      told = leave_told k g sound.good sound.told;
      settings = subst (λ (s : Begun). AreSettings s.players s.cap) (sym stays.settings)
          sound.settings;
      young = (let young = sound.young in let age = stays.age in omega (arith, young, age));
      lines = subst (λ (lines : List (List ℕ)). AllByRecursion LineFits lines) (sym stays.lines)
          sound.lines;
      few = (let few = sound.few in
          let fewer = fewer_gone k g in
          let most = ap (λ (s : Begun). s.players) stays.settings in
          omega (arith, few, fewer, most));
      counted = leave_counted k g sound.good sound.counted;
      players = subst (AllValues (λ (j : ℕ) (p : Player). PlayerIsTold p)) (sym (leave_players k g))
          (all_gone (λ (j : ℕ) (p : Player). PlayerIsTold p) g.players sound.players k);
    }

pub leave_all_sound : (ks : List ℕ) (g : Game) → SoundGame g → SoundGame (leave_all ks g)
leave_all_sound [] g sound = sound
leave_all_sound (k ∷ ks) g sound = leave_all_sound ks (leave k g) (leave_sound k g sound)

-- ---- a tick

pub grown_sound : (g : Game) → SoundGame g → SoundGame (grown g)
grown_sound g sound = record {
  good = sound.good;
  chests = same_chests refl refl refl sound.chests;
  told = sound.told;
  settings = sound.settings;
  young = omega arith;
  lines = sound.lines;
  few = sound.few;
  counted = sound.counted;
  players = sound.players;
}

pub told_sound : (g : Game) → SoundGame g → SoundGame (told g)
told_sound g sound = record {
  good = told_good g sound.good;
  chests = same_chests refl refl refl sound.chests;
  told = sound.told;
  settings = sound.settings;
  young = sound.young;
  lines = tt;
  few = (let few = sound.few in omega (arith, few, many));
  counted = (let counted = sound.counted in omega (arith, counted, many));
  players = all_changed (λ (j : ℕ) (p : Player). PlayerIsTold p) tells g.players (told g).players
      (told_players g)
      (λ j p there. record { name = (sound.players j p there).name; notes = no_notes_fit });
}
  where
    tells : ℕ → Player → Player
    tells k p = told_player p

    many : len (told g).players ≡ len g.players
    many = many_changed tells g.players (told g).players (told_players g)

-- mobs move, and players pick up what they can
pub rules_sound : (plans : Plans) (g : Game) → SoundGame g → SoundGame (tick_rules plans g)
rules_sound plans g sound =
    let left = rules_leave plans g in
    let kept = rules_good plans g sound.good sound.told in
    record {
      good = kept.good;
      chests = same_chests left.settings left.edits left.chests sound.chests;
      told = kept.told;
      settings = subst (λ (s : Begun). AreSettings s.players s.cap) (sym left.settings)
          sound.settings;
      young = (let young = sound.young in let age = left.age in omega (arith, young, age));
      lines = subst (λ (lines : List (List ℕ)). AllByRecursion LineFits lines) (sym left.lines)
          sound.lines;
      few = (let few = sound.few in
          let many = ap len left.players in
          let most = ap (λ (s : Begun). s.players) left.settings in
          omega (arith, few, many, most));
      counted = (let counts = kept.counts in
          let counted = sound.counted in
          let many = ap len left.players in
          omega (arith, counts, counted, many));
      players = subst (AllValues (λ (k : ℕ) (p : Player). PlayerIsTold p)) (sym left.players)
          sound.players;
    }

pub new_sound : (settings : Begun) (mobs : ℕ) → mobs ≤ MOBS_MAX →
    AreSettings settings.players settings.cap → SoundGame (new_game settings mobs)
new_sound settings mobs most are = record {
  good = new_whole settings mobs;
  chests = new_chests settings mobs;
  told = new_told settings mobs most;
  settings = are;
  young = omega arith;
  lines = tt;
  few = (let none = len-empty nat_cmp Player in omega (arith, none));
  counted = (let few = new_few settings mobs most in omega (arith, few));
  players = λ k p there. absurd (none_some _ p (get-empty nat_cmp k) there);
}
