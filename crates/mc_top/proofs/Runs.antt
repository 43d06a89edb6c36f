-- Inputs that are served and refused, whatever the command.
use Rattle.std.proofs.Common.{◌≡◌, ◌⊎◌, List, Some}
use Rattle.mc_wire.specs.Count.{Rose}
use Rattle.mc_model.specs.Minds.{Plans}
use Rattle.mc_words.specs.declared.arguments.Command.{Command}
use Rattle.mc_words.specs.declared.arguments.Command.TheVariants.{Status, Replay, Serve, Bot}
use Rattle.mc_words.specs.declared.arguments.Command.TheVariants.{View, Show, Load}
use Rattle.mc_words.specs.declared.bad_input.BadInput.{BadInput}
use Rattle.mc_words.specs.declared.ended.Ended.{Ended}
use Rattle.mc_words.specs.declared.ended.Ended.TheVariants as ended
use Rattle.mc_words.specs.Devices.{Devices, streams_of}
use Rattle.mc_words.specs.Ended.{status_of}
use Rattle.mc_status.specs.StatusText.{status_told}
use Rattle.mc_words.proofs.Delivering.{bad_delivered, fine_delivered}
use Rattle.mc_top.specs.Promises.{EndsFine, FirstFault, IsFineInput, Promises}
use Rattle.mc_top.specs.ReplayPromise.{replay_told, start_of}
use Rattle.mc_top.specs.CapturePromise.{shown, viewed}
use Rattle.mc_top.proofs.BotKept.{bot_refused, bot_served}
use Rattle.mc_top.proofs.CaptureKept.{capture_refused, capture_served}
use Rattle.mc_top.proofs.Loads.{load_served}
use Rattle.mc_top.proofs.ServeKept.{serve_served}

module _ (plans : Plans) (how : Ended) (before after : Devices) where
  pub served : (command : Command) → Promises plans command how before after →
      IsFineInput plans command before.left →
      ¬ Rose before.read_faults after.read_faults →
      ¬ Rose before.write_faults after.write_faults →
      ¬ Rose before.counts.faults after.counts.faults →
      ¬ Rose before.link.counts.faults after.link.counts.faults →
      EndsFine command how ⊎ (how ≡ ended.NoMemory)
  served (Status most) p fine reads writes faults links = fine_delivered (status_told most) how
      (streams_of before) (streams_of after) fine.0 p.1 fine.1 fine.2 reads writes
  served (Replay options) p fine reads writes faults links =
      fine_delivered (replay_told (start_of plans options)) how (streams_of before)
      (streams_of after) fine.0 p.1.0 fine.1 fine.2 reads writes
  served (Serve options) p fine reads writes faults links =
      serve_served plans options how before after p.1 writes faults
  served (Bot options) p fine reads writes faults links =
      bot_served options how before after fine.0 p.1 fine.1 fine.2 reads writes links
  served View p fine reads writes faults links = capture_served viewed how (streams_of before)
      (streams_of after) fine.0 p.1 fine.1 fine.2 reads writes
  served (Show client) p fine reads writes faults links = capture_served (shown client) how
      (streams_of before) (streams_of after) fine.0 p.1 fine.1 fine.2 reads writes
  served (Load options) p fine reads writes faults links =
      load_served options how before after p.1 writes

  pub refused : (bad : BadInput) (command : Command) → Promises plans command how before after →
      FirstFault plans command (Some bad) before.left →
      ¬ Rose before.read_faults after.read_faults →
      ¬ Rose before.write_faults after.write_faults → (status_of how ≡ 6) ⊎ (status_of how ≡ 1)
  refused bad (Status most) p wrong_ reads writes = bad_delivered (status_told most) how
      (streams_of before) (streams_of after) bad wrong_.0 p.1 wrong_.1 wrong_.2 reads writes
  refused bad (Replay options) p wrong_ reads writes =
      bad_delivered (replay_told (start_of plans options)) how (streams_of before)
      (streams_of after) bad wrong_.0 p.1.0 wrong_.1 wrong_.2 reads writes
  refused bad (Serve options) p wrong_ reads writes = absurd wrong_
  refused bad (Bot options) p wrong_ reads writes =
      bot_refused options how before after wrong_.0 bad p.1 wrong_.1 wrong_.2 reads
  refused bad View p wrong_ reads writes = capture_refused viewed how (streams_of before)
      (streams_of after) wrong_.0 bad p.1 wrong_.1 wrong_.2 reads writes
  refused bad (Show client) p wrong_ reads writes = capture_refused (shown client) how
      (streams_of before) (streams_of after) wrong_.0 bad p.1 wrong_.1 wrong_.2 reads writes
  refused bad (Load options) p wrong_ reads writes = absurd wrong_
