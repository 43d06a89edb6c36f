-- What `replay` tells of a script that was read, and what holds of all that happens in one.
use Rattle.std.proofs.Common.{◌≡◌, ℕ, ◌+◌, List, length, Option, None, Some, Result, Ok, Err}
use Rattle.std.proofs.Common.{refl, sym, inl, inr, ap}
use Rattle.std.specs.Prelude.{IsErrOf}
use Rattle.mc_wire.specs.Count.{Rose, StandsOrRises}
use Rattle.mc_wire.specs.Stream.{Grows}
use Rattle.mc_model.specs.Game.{AreSettings}
use Rattle.mc_model.specs.Headline.{Headline}
use Rattle.mc_model.specs.Minds.{Start}
use Rattle.mc_model.specs.World.{new_world}
use Rattle.mc_laws.proofs.Headline.Promise.{headline}
use Rattle.mc_words.specs.declared.bad_input.BadInput.{BadInput}
use Rattle.mc_words.specs.declared.script_line.ScriptEvent.{ScriptEvent}
use Rattle.mc_text.specs.declared.unfinished.Unfinished.{Unfinished}
use Rattle.mc_text.specs.declared.unfinished.Unfinished.TheVariants.{Failed, NoMemory}
use Rattle.mc_text.specs.Lines.{ReadsText}
use Rattle.mc_words.specs.declared.ended.Ended.{Ended}
use Rattle.mc_words.specs.declared.ended.Ended.TheVariants as ended
use Rattle.mc_words.specs.Ended.{ended_told}
use Rattle.mc_words.specs.Finishing.{Finishes}
use Rattle.mc_text.specs.Lines.{text_max}
use Rattle.mc_words.specs.Script.{script_of}
use Rattle.mc_words.specs.Told.{Tells}
use Rattle.mc_words.proofs.Delivering.{IsTelling, of_read}
use Rattle.mc_text.proofs.Growing.{grows_none}
use Rattle.mc_measure.specs.Settling.{settled_log}
use Rattle.mc_top.specs.ReplayText.{events_of, replay_text}
use Rattle.mc_top.specs.Replaying.{HasStopped}
use Rattle.mc_top.specs.ReplayPromise.{IsPlayed, IsScriptText, KeepsAll, Plays, replay_told}
use Rattle.mc_top.specs.ReplayPromise.{told_script}
use Rattle.mc_top.proofs.LongTexts.{script_front, long_no_script}
use Rattle.mc_top.proofs.ScriptFacts.{script_bytes}
use Rattle.mc_top.proofs.Sent.{told_taken}

-- ---- what is told of a script

-- it is none
pub tells_bad : (start : Start) (text : List ℕ) (held : Option (List ℕ)) (faults : ℕ)
    (bad : BadInput) → script_of text ≡ Err bad →
    Tells (replay_told start text) (Ok (Some bad)) held held faults faults
unfolding replay_told
tells_bad start text held faults bad is = rw is (refl, grows_none held, inl refl)

module _ (start : Start) (text : List ℕ) (held held' : Option (List ℕ))
    (faults faults' : ℕ) where
  -- it was played to its end
  pub tells_played : (events : List ScriptEvent) → script_of text ≡ Ok events →
      Grows held held' (replay_text (new_world start) (events_of events)) →
      StandsOrRises faults faults' →
      Tells (replay_told start text) (Ok None) held held' faults faults'
  unfolding replay_told
  tells_played events is wrote counts = rw is (refl, wrote, counts)

  -- it was not
  pub tells_stopped : (events : List ScriptEvent) (why : Unfinished) →
      script_of text ≡ Ok events →
      HasStopped (events_of events) (new_world start) held held' →
      (why ≡ Failed → Rose faults faults') →
      Tells (replay_told start text) (Err why) held held' faults faults'
  unfolding replay_told
  tells_stopped events Failed is stopped rose =
      rw is (rose refl, (stopped.len, stopped.wrote))
  tells_stopped events NoMemory is stopped rose = rw is (stopped.len, stopped.wrote)

-- a script without a fault
fine_script : (start : Start) (r : Result (List ScriptEvent) BadInput) →
    (told_script start r).fault ≡ None → (events : List ScriptEvent) × (r ≡ Ok events)
fine_script start (Ok events) fine = (events, refl)
fine_script start (Err bad) fine = absurd cc

fine_text : (start : Start) (text : List ℕ) →
    (replay_told start text).fault ≡ None → IsScriptText text
unfolding replay_told
fine_text start text fine = fine_script start (script_of text) fine

pub replay_telling : (start : Start) → IsTelling (replay_told start)
unfolding replay_told
replay_telling start = record {
  front = λ begin more is. ap (told_script start) (script_front begin more is);
  long = long;
}
  where
    long : (text : List ℕ) → length text ≡ text_max + 1 →
        (replay_told start text).fault ≡ None → ⊥
    long text is fine =
        let script = fine_text start text fine in long_no_script text script.0 is script.1

-- ---- what holds of all that happens in a script

-- it keeps the whole promise about a run
whole_promise : (start : Start) (bytes : List ℕ) (events : List ScriptEvent) →
    AreSettings start.settings.players start.settings.cap →
    script_of bytes ≡ Ok events →
    Headline start (settled_log (new_world start) (events_of events))
whole_promise start bytes events settings is =
    headline start (settled_log (new_world start) (events_of events)) settings
    (script_bytes (new_world start) bytes events is)

keeps_all : (start : Start) (input : List ℕ) (events : List ScriptEvent) →
    AreSettings start.settings.players start.settings.cap → script_of input ≡ Ok events →
    KeepsAll start events
keeps_all start input events settings is =
    let promise = whole_promise start input events settings is in
    record {
      promise = promise;
      sent = λ k. told_taken start events k promise;
    }

is_played : (start : Start) (left left' : Option (List ℕ)) (bytes : List ℕ) →
    AreSettings start.settings.players start.settings.cap → ReadsText left left' bytes →
    IsScriptText bytes → IsPlayed start left
is_played start left left' bytes settings read script = record {
  script = of_read script_of (λ r. (events : List ScriptEvent) × (r ≡ Ok events)) left left' bytes
      script_front read script;
  keeps = λ input events told is. keeps_all start input events settings is;
}

pub plays : (start : Start) (left left' held held' : Option (List ℕ))
    (faults faults' : ℕ) (bytes : List ℕ) (r : Result (Option BadInput) Unfinished) →
    AreSettings start.settings.players start.settings.cap → ReadsText left left' bytes →
    Tells (replay_told start bytes) r held held' faults faults' →
    (IsErrOf r Failed → IsScriptText bytes) → Plays start (ended_told r) left
plays start left left' held held' faults faults' bytes (Ok None) settings read t script =
    is_played start left left' bytes settings read (fine_text start bytes (sym t.0))
plays start left left' held held' faults faults' bytes (Ok (Some bad)) settings read t script = tt
plays start left left' held held' faults faults' bytes (Err Failed) settings read t script =
    is_played start left left' bytes settings read (script refl)
plays start left left' held held' faults faults' bytes (Err NoMemory) settings read t script = tt

-- writing the last line changes nothing of that
pub plays_on : (start : Start) (how result : Ended)
    (left held held' : Option (List ℕ)) (faults faults' : ℕ) → Plays start how left →
    Finishes how result held held' faults faults' → Plays start result left
plays_on start ended.Done result left held held' faults faults' p f = rw f.0 p
plays_on start ended.WriteFault result left held held' faults faults' p f = rw f.0 p
plays_on start ended.NoMemory result left held held' faults faults' p f = rw f.0 p
plays_on start ended.Usage result left held held' faults faults' p f = rw f.0 p
plays_on start ended.ReadFault result left held held' faults faults' p f = rw f.0 p
plays_on start ended.NetFault result left held held' faults faults' p f = rw f.0 p
plays_on start (ended.BadInput bad) result left held held' faults faults' p (inl f) = rw f.0 tt
plays_on start (ended.BadInput bad) result left held held' faults faults' p (inr f) = rw f.0 tt
plays_on start (ended.Budget n) result left held held' faults faults' p (inl f) = rw f.0 tt
plays_on start (ended.Budget n) result left held held' faults faults' p (inr f) = rw f.0 tt
plays_on start (ended.Refused why) result left held held' faults faults' p (inl f) = rw f.0 tt
plays_on start (ended.Refused why) result left held held' faults faults' p (inr f) = rw f.0 tt
