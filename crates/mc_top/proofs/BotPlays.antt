-- How `bot` ends behind the play of its script, before its last line is written.
use Rattle.std.proofs.Common.{◌≡◌, ℕ, ◌⊎◌, inl, inr, List, Option, Result, Ok, Err, refl, ap}
use Rattle.std.specs.Prelude.{IsErrOf}
use Rattle.mc_model.specs.Replica.{Replica, new_replica}
use Rattle.mc_replica.specs.Dump.{dump_text}
use Rattle.mc_wire.specs.Count.{Rose}
use Rattle.mc_words.specs.declared.arguments.BotOptions.{BotOptions}
use Rattle.mc_words.specs.Devices.{LinkDevice, streams}
use Rattle.mc_text.specs.Passes.{SendsPart}
use Rattle.mc_bot.specs.declared.bot_fault.BotFault.{BotFault}
use Rattle.mc_bot.specs.declared.bot_fault.BotFault.TheVariants as faults
use Rattle.mc_bot.specs.Played.{HasPlayedScript, PlayLeft, PlayStart, replica_rules}
use Rattle.mc_bot.specs.Playing.{Course, ahead_of, ended_with, ends, played_out, refused_for}
use Rattle.mc_bot.specs.Script.{ScriptValue}
use Rattle.mc_top.specs.BotPromise.{Begins, BotEnds, DumpsPart, Ends, IsPlayed, IsScript, Waits}
use Rattle.mc_top.specs.BotPromise.{ended_by_play}

-- the script was played
module _ (A : Type 0) (view : A → Option (List ℕ)) (old new : A) (options : BotOptions)
    (script : ScriptValue) (link link' : LinkDevice) (left left' : Option (List ℕ))
    (reads reads' before after : ℕ) (seen : Replica) where
  abbrev pub Begun : PlayStart Replica
  Begun = record {
    rules = replica_rules;
    seen = new_replica;
    script = script;
    port = options.port;
    patience = options.patience;
    told = link.told;
    held = view old;
  }

  abbrev pub Left : PlayLeft Replica
  Left =
      record { seen = seen; told = link'.told; stage = link'.stage; held = view new }

  abbrev pub HasCome : Result (Unit {0}) BotFault → Type 0
  HasCome r = HasPlayedScript Begun Left (new ≡ old) r

  played : (r : Result (Unit {0}) BotFault) (p : HasCome r) (H : Course Replica → List ℕ → Type 0) →
      IsScript script left left' → H (played_out replica_rules new_replica script options.port
      (ahead_of p.cut link'.stage.ended)) p.sent → IsPlayed options link link' left left' H
  played r p H is holds = record {
    script = script;
    is_script = is;
    given = p.given;
    sent = p.sent;
    exchanged = p.exchanged;
    cut = p.cut;
    is_cut = p.is_cut;
    holds = holds;
  }

  begun_dump : (course : Course Replica) (sent : List ℕ) →
      (new ≡ old) ⊎ ((course ≡ ends (ended_with seen) sent)
      × SendsPart (view old) (view new) (dump_text seen)) →
      DumpsPart (view old) (view new) course sent
  begun_dump course sent (inl same) = inl (ap view same)
  begun_dump course sent (inr part) = inr (seen, part.0, part.1)

  -- it was refused for something
  refused : (fault : BotFault) (p : HasCome (Err fault)) → IsScript script left left' →
      Ends options link' (refused_for fault) (played_out replica_rules new_replica script
      options.port (ahead_of p.cut link'.stage.ended)) p.sent →
      IsPlayed options link link' left left' (Ends options link' (refused_for fault))
  refused fault p is ended_ =
      played (Err fault) p (Ends options link' (refused_for fault)) is ended_

  pub bot_played : (r : Result (Unit {0}) BotFault) → IsScript script left left' → HasCome r →
      (IsErrOf r faults.Link → Rose link.counts.faults link'.counts.faults) →
      (IsErrOf r faults.Write → Rose before after) →
      BotEnds (λ line. new ≡ old) options (ended_by_play r) link link'
      (streams left reads (view old) before) (streams left' reads' (view new) after)
  bot_played (Ok done) is p links writes =
      (seen, played (Ok done) p (Ends options link' (ended_with seen)) is p.ended, p.dumped)
  bot_played (Err faults.Link) is p links writes =
      (links refl, played (Err faults.Link) p Begins is p.ended, p.dumped)
  bot_played (Err faults.Write) is p links writes = (
    seen,
    writes refl,
    played (Err faults.Write) p (Ends options link' (ended_with seen)) is p.ended,
    p.dumped,
  )
  bot_played (Err (faults.Closed reason)) is p links writes =
      (faults.Closed reason, refl, refused (faults.Closed reason) p is p.ended, p.dumped)
  bot_played (Err (faults.Frame fault)) is p links writes =
      (faults.Frame fault, refl, refused (faults.Frame fault) p is p.ended, p.dumped)
  bot_played (Err (faults.Packet fault n)) is p links writes =
      (faults.Packet fault n, refl, refused (faults.Packet fault n) p is p.ended, p.dumped)
  bot_played (Err (faults.Body fault)) is p links writes =
      (faults.Body fault, refl, refused (faults.Body fault) p is p.ended, p.dumped)
  bot_played (Err (faults.Patience n)) is p links writes = (
    p.ended.1,
    played (Err (faults.Patience n)) p (Waits options link') is (p.ended.0, p.ended.2),
    p.dumped,
  )
  bot_played (Err (faults.Expect line want have)) is p links writes = (
    faults.Expect line want have,
    refl,
    refused (faults.Expect line want have) p is p.ended,
    p.dumped,
  )
  bot_played (Err faults.NoMemory) is p links writes = inr (played (Err faults.NoMemory) p
      (λ course sent. Begins course sent × DumpsPart (view old) (view new) course sent) is
      (p.ended, begun_dump _ p.sent p.dumped))
