-- All in play are shown chests as they should be once players entered and left, and after a tick.
use Rattle.std.proofs.Common.{◌≡◌, ◌≢◌, ℕ, List, [], ◌∷◌, Some, None, refl, sym, ap, ◌∙◌}
use Rattle.std.proofs.Common.{arith}
use Rattle.std.specs.Prelude.{option_map}
use Rattle.std.proofs.lemmas.Bool.Decides.{nat_tests}
use Rattle.std.specs.FinMap.{get, get-empty}
use lib.IntN.{ℤ}
use Rattle.mc_slots.specs.declared.pile.Item.{Item}
use Rattle.mc_slots.specs.declared.pile.Pile.{Pile}
use Rattle.mc_slots.specs.declared.pile.Pile.TheVariants.{Empty, Full}
use Rattle.mc_windows.specs.Storing.{stored}
use Rattle.mc_model.specs.declared.player.Player.{Player}
use Rattle.mc_model.specs.declared.settings.Settings.{Settings}
use Rattle.mc_model.specs.Names.{offline_uuid}
use Rattle.mc_model.specs.Game.{Game, new_game, pack_named, pack_of}
use Rattle.mc_model.specs.Minds.{Plans, mobs_moved}
use Rattle.mc_model.specs.Deeds.{enter_as, lessened, repack_of}
use Rattle.mc_model.specs.Leaving.{leave, leave_all}
use Rattle.mc_model.specs.Pickups.{pickups, stowed}
use Rattle.mc_model.specs.Tick.{grown, told, told_player}
use Rattle.mc_model.specs.Good.{AreShown, Good}
use Rattle.mc_model.proofs.Maps.Options.{none_some, some_is}
use Rattle.mc_model.proofs.Maps.Lookups.{get_keyed, name_put_other, name_put_same, put_other}
use Rattle.mc_model.proofs.Maps.Lookups.{put_same}
use Rattle.mc_laws.proofs.Pickups.Picking.{pickups_keep}
use Rattle.mc_laws.proofs.TickRules.{tick_rules}
use Rattle.mc_laws.proofs.Windows.Watching.{Watch, renamed}
use Rattle.mc_laws.proofs.Windows.Same.{SameWindows, ShownBut, nobody, number_of, repacked_same}
use Rattle.mc_laws.proofs.Windows.Same.{right_shown, same_on, same_parts, same_right, shown_right}
use Rattle.mc_laws.proofs.Windows.Same.{unmapped, watch_of, who_in, window_in}
use Rattle.mc_laws.proofs.Windows.Clicks.{stored_window}
use Rattle.mc_laws.proofs.Windows.Closing.{leave_all_right}

-- ---- the same windows

-- what leaves windows as they are leaves them right
same_shown : (g v : Game) → SameWindows g v → Good g → AreShown g → AreShown v
same_shown g v same w s = right_shown v (same_right nobody g v same (shown_right g w s))

lessened_same : (eid : ℤ) (pile : Pile) (g : Game) → SameWindows g (lessened eid pile g)
lessened_same eid Empty g = same_parts refl refl refl
lessened_same eid (Full item) g = same_parts refl refl refl

stowed_same : (p : Player) (x : ℤ × Item) (g : Game) → SameWindows g (stowed p x g)
stowed_same p x g =
    let end = stored (pack_of g p) x.1 in
    same_on {u = repack_of p end.pack g}
    (repacked_same p end.pack g (stored_window (pack_of g p) x.1))
    (lessened_same x.0 end.floor (repack_of p end.pack g))

pickups_same : (g : Game) → SameWindows g (pickups g)
pickups_same = pickups_keep SameWindows (λ g. same_parts refl refl refl)
    (λ g u v a b. same_on {u = u} a b) stowed_same

mobs_same : (plans : Plans) (g : Game) → SameWindows g (mobs_moved plans g)
unfolding mobs_moved
mobs_same plans g = same_parts refl refl refl

told_same : (g : Game) → SameWindows g (told g)
told_same g = record {
  who = λ k.
      grind (arith, nat_tests, get_keyed (λ (j : ℕ) (p : Player). told_player p) g.players k);
  windows = λ name. refl;
  stands = λ cell is. is;
}

pub grown_shown : (g : Game) → AreShown g → AreShown (grown g)
grown_shown g s = record {
  shown = λ k p is. let a = s.shown k p is in record { number = a.number; stands = a.stands };
  numbers = s.numbers;
  kept = s.kept;
}

-- mobs move, and players pick up what they can
pub rules_shown : (plans : Plans) (g : Game) → Good g → AreShown g →
    AreShown (tick_rules plans g)
rules_shown plans g = let moved : Game = mobs_moved plans g in
    same_shown g (pickups moved) (same_on {u = moved} (mobs_same plans g) (pickups_same moved))

pub told_shown : (g : Game) → Good g → AreShown g → AreShown (told g)
told_shown g = same_shown g (told g) (told_same g)

-- ---- coming and going

pub leave_all_shown : (ks : List ℕ) (g : Game) → Good g → AreShown g → AreShown (leave_all ks g)
leave_all_shown ks g w s =
    right_shown (leave_all ks g) (leave_all_right ks g (shown_right g w s))

pub leave_shown : (k : ℕ) (g : Game) → Good g → AreShown g → AreShown (leave k g)
leave_shown k g = leave_all_shown (k ∷ []) g

-- a player enters whose name no other has
pub enter_shown : (k : ℕ) (name : List ℕ) (g : Game) → Good g →
    ((j : ℕ) (q : Player) → get g.players j ≡ Some q → q.uuid ≢ offline_uuid name) →
    get g.players k ≡ None → AreShown g → AreShown (enter_as k name g)
enter_shown k name g w free none s = right_shown (enter_as k name g) (renamed k name None 0
    (record {
      was = λ a is. absurd (none_some _ a (ap (option_map watch_of) none) is);
      is = λ a is. some_is a _ (sym is ∙ here);
      others = λ j ne. ap (option_map watch_of) (put_other g.players k j _ ne);
      alone = λ j a ne is. new j a is;
      window = window;
      rest = λ other ne. ap (option_map number_of)
          (name_put_other g.packs name other (pack_named g name) ne);
      number = refl;
      low = omega arith;
      gone = λ none. refl;
    }) r (λ cell some. absurd cc) (λ j ne out. out))
  where
    r : ShownBut nobody g
    r = shown_right g w s

    came : Game
    came = enter_as k name g

    here : who_in came k ≡ Some (record { name = name; chest = None })
    here = ap (option_map watch_of) (put_same g.players k _)

    new : (j : ℕ) (a : Watch) → who_in g j ≡ Some a → a.name ≢ name
    new j a is same =
        let p = unmapped watch_of (get g.players j) a is in
        free j p.value p.found ((w.own j p.value p.found).uuid
        ∙ ap offline_uuid (ap (λ (x : Watch). x.name) p.is ∙ same))

    -- the window of a name that is not in play, or of the kit
    window : window_in came name ≡ Some 0
    window = (let kept = λ (n : ℕ) (is : window_in g name ≡ Some n). r.kept name n is new in
        grind (arith, nat_tests, name_put_same, kept))

-- ---- the first game

pub new_shown : (settings : Settings) (mobs : ℕ) → AreShown (new_game settings mobs)
new_shown settings mobs = record {
  shown = λ k p is. absurd (none_some _ p (get-empty _ k) is);
  numbers = λ name pack is. absurd (none_some _ pack (get-empty _ name) is);
  kept = λ name pack is none. absurd (none_some _ pack (get-empty _ name) is);
}
