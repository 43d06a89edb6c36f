-- The promise of `bot`, from what its function says and from its last line.
use Rattle.std.proofs.Common.{◌≡◌, ℕ, ◌⊎◌, inl, inr, List, [], Option, Some, None, Err, refl, sym}
use Rattle.std.proofs.Common.{subst, ap, ◌∙◌}
use Rattle.std.proofs.lemmas.List.{append-nil}
use Rattle.mc_model.specs.Replica.{Replica}
use Rattle.mc_replica.specs.Dump.{dump_text}
use Rattle.mc_wire.specs.Count.{Rose}
use Rattle.mc_wire.specs.Stream.{Grows}
use Rattle.mc_words.specs.declared.arguments.BotOptions.{BotOptions}
use Rattle.mc_words.specs.declared.arguments.Command.TheVariants.{Bot}
use Rattle.mc_words.specs.declared.bad_input.BadInput.{BadInput}
use Rattle.mc_words.specs.declared.ended.Ended.{Ended}
use Rattle.mc_words.specs.declared.ended.Ended.TheVariants as ended
use Rattle.mc_words.specs.Devices.{Devices, LinkDevice, WroteLast, streams}
use Rattle.mc_words.specs.Ended.{bad_input_line, budget_line, net_fault_line, read_fault_line}
use Rattle.mc_words.specs.Ended.{refused_line, status_of}
use Rattle.mc_words.specs.Finishing.{Finishes}
use Rattle.mc_text.specs.Passes.{SendsPart}
use Rattle.mc_bot.specs.Playing.{BotEnd, Course, all_sent, ends, refused_for, waiting}
use Rattle.mc_top.specs.BotPromise.{Begins, BotEnds, BotPromise, DumpsPart, Ends, IsNoScript}
use Rattle.mc_top.specs.BotPromise.{IsPlayed, Waits, bot_fault}
use Rattle.mc_top.specs.Promises.{EndsFine}
use Rattle.mc_top.proofs.BotTexts.{script_or_fault}
use Rattle.mc_top.proofs.ServeKept.{only_last, still_rose}

module _ (options : BotOptions) (link link' : LinkDevice) (left left' : Option (List ℕ)) where
  -- what follows of a play holds of it
  pub weaken : (H K : Course Replica → List ℕ → Type 0) →
      ((course : Course Replica) (sent : List ℕ) → H course sent → K course sent) →
      IsPlayed options link link' left left' H → IsPlayed options link link' left left' K
  weaken H K follows p = record {
    script = p.script;
    is_script = p.is_script;
    given = p.given;
    sent = p.sent;
    exchanged = p.exchanged;
    cut = p.cut;
    is_cut = p.is_cut;
    holds = follows _ p.sent p.holds;
  }

-- a play that ended began, and nothing of a dump was written
begins : (held held' : Option (List ℕ)) (end_ : BotEnd Replica) (course : Course Replica)
    (sent : List ℕ) → held' ≡ held → course ≡ ends end_ sent →
    Begins course sent × DumpsPart held held' course sent
begins held held' end_ course sent same is =
    (([], ap all_sent is ∙ sym (append-nil sent)), inl same)

-- the promise holds once the last line is written
module _ (A : Type 0) (view : A → Option (List ℕ)) (count : A → ℕ) (options : BotOptions)
    (link link' : LinkDevice) (left left' : Option (List ℕ)) (reads reads' : ℕ) (old mid new : A)
  where
    -- how it ended, before the last line and with it
    abbrev pub Ended_ : Ended → Type 0
    Ended_ e = BotEnds (λ line. mid ≡ old) options e link link'
        (streams left reads (view old) (count old)) (streams left' reads' (view mid) (count mid))

    abbrev pub Kept : Ended → Type 0
    Kept e = BotEnds (λ line. WroteLast (view old) (view new) (count old) (count new) line) options e
        link link' (streams left reads (view old) (count old))
        (streams left' reads' (view new) (count new))

    wrote : (line : List ℕ) → mid ≡ old →
        WroteLast (view mid) (view new) (count mid) (count new) line →
        WroteLast (view old) (view new) (count old) (count new) line
    wrote line same last = only_last A view count old mid new line same last

    -- there was no memory for the last line behind a play
    unwritten : (H : Course Replica → List ℕ → Type 0) (end_ : BotEnd Replica) →
        ((course : Course Replica) (sent : List ℕ) → H course sent → course ≡ ends end_ sent) →
        mid ≡ old → view new ≡ view mid → IsPlayed options link link' left left' H →
        Kept ended.NoMemory
    unwritten H end_ ended_is same still p = inr (weaken options link link' left left' H _
        (λ course sent h. begins (view old) (view new) end_ course sent (still ∙ ap view same)
        (ended_is course sent h)) p)

    pub bot_kept : (how result : Ended) → Ended_ how →
        Finishes how result (view mid) (view new) (count mid) (count new) → Kept result
    bot_kept ended.Done result said last = subst Kept (sym last.0) (
      said.0,
      said.1,
      subst (λ (h : Option (List ℕ)). Grows (view old) h (dump_text said.0)) (sym last.1.0) said.2,
    )
    bot_kept ended.NoMemory result said last = subst Kept (sym last.0)
        (subst (λ (h : Option (List ℕ)). ((link' ≡ link) × (h ≡ view old))
        ⊎ IsPlayed options link link' left left'
        (λ course sent. Begins course sent × DumpsPart (view old) h course sent))
        (sym last.1.0) said)
    bot_kept ended.Usage result said last = absurd said
    bot_kept ended.ReadFault result said last = subst Kept (sym last.0)
        (said.0, said.1, wrote read_fault_line said.2 last.1)
    bot_kept ended.WriteFault result said last = subst Kept (sym last.0) (
      said.0,
      still_rose (count old) (count mid) (count new) last.1.1 said.1,
      said.2,
      subst (λ (h : Option (List ℕ)). SendsPart (view old) h (dump_text said.0)) (sym last.1.0)
          said.3,
    )
    bot_kept ended.NetFault result said last = subst Kept (sym last.0)
        (said.0, said.1, wrote net_fault_line said.2 last.1)
    bot_kept (ended.BadInput bad) result said (inl last) = subst Kept (sym last.0)
        (said.0, said.1, wrote (bad_input_line bad) said.2 last.1)
    bot_kept (ended.BadInput bad) result said (inr last) = subst Kept (sym last.0)
        (inl (said.1, last.1.0 ∙ ap view said.2))
    bot_kept (ended.Budget n) result said (inl last) = subst Kept (sym last.0)
        (said.0, said.1, wrote (budget_line n) said.2 last.1)
    bot_kept (ended.Budget n) result said (inr last) = subst Kept (sym last.0)
        (unwritten (Waits options link') waiting (λ course sent h. h.0) said.2 last.1.0 said.1)
    bot_kept (ended.Refused why) result said (inl last) = subst Kept (sym last.0)
        (said.0, said.1, said.2, wrote (refused_line why) said.3 last.1)
    bot_kept (ended.Refused why) result said (inr last) = subst Kept (sym last.0)
        (unwritten (Ends options link' (refused_for said.0)) (refused_for said.0)
        (λ course sent h. h.0) said.3 last.1.0 said.2)

-- ---- what follows from it

fault_or_fine : (input : List ℕ) (bad : BadInput) (left left' : Option (List ℕ)) →
    IsNoScript bad left left' → left ≡ Some input → bot_fault input ≡ None → ⊥
fault_or_fine input bad None left' wrong_ is fine = absurd cc
fault_or_fine input bad (Some all) left' wrong_ is fine =
    let same : wrong_.input ≡ input = cc (wrong_.left_is, is) in
    let there : bot_fault input ≡ Some bad = rw (← same) wrong_.is in
    cc

module _ (options : BotOptions) (how : Ended) (before after : Devices) (input : List ℕ) where
  -- a script is played, unless memory runs out or a device fails
  pub bot_served : BotPromise options how before after → before.left ≡ Some input →
      bot_fault input ≡ None → ¬ Rose before.read_faults after.read_faults →
      ¬ Rose before.write_faults after.write_faults →
      ¬ Rose before.link.counts.faults after.link.counts.faults →
      EndsFine (Bot options) how ⊎ (how ≡ ended.NoMemory)
  bot_served p is fine reads writes links = served how p
    where
      served : (e : Ended) → BotPromise options e before after →
          EndsFine (Bot options) e ⊎ (e ≡ ended.NoMemory)
      served ended.Done p = inl (inl refl)
      served ended.NoMemory p = inr refl
      served ended.Usage p = absurd p
      served ended.ReadFault p = absurd (reads p.0)
      served ended.WriteFault p = absurd (writes p.1)
      served ended.NetFault p = absurd (links p.0)
      served (ended.BadInput bad) p = absurd
          (fault_or_fine input bad before.left after.left p.0 is fine)
      served (ended.Budget n) p = inl (inr (inl (ap (λ (k : ℕ). ended.Budget k) p.0)))
      served (ended.Refused why) p = inl (inr (inr (why, refl)))

  -- what is no script is refused
  pub bot_refused : (bad : BadInput) → BotPromise options how before after →
      before.left ≡ Some input → bot_fault input ≡ Some bad →
      ¬ Rose before.read_faults after.read_faults → (status_of how ≡ 6) ⊎ (status_of how ≡ 1)
  bot_refused bad p is wrong_ reads = refused how p
    where
      no_play : (H : Course Replica → List ℕ → Type 0) →
          IsPlayed options before.link after.link before.left after.left H → ⊥
      no_play H p =
          let fine = script_or_fault input p.script before.left after.left p.is_script is in
          cc

      refused : (e : Ended) → BotPromise options e before after →
          (status_of e ≡ 6) ⊎ (status_of e ≡ 1)
      refused ended.Done p = absurd (no_play _ p.1)
      refused ended.NoMemory p = inr refl
      refused ended.Usage p = absurd p
      refused ended.ReadFault p = absurd (reads p.0)
      refused ended.WriteFault p = absurd (no_play _ p.2)
      refused ended.NetFault p = absurd (no_play _ p.1)
      refused (ended.BadInput other) p = inl refl
      refused (ended.Budget n) p = absurd (no_play _ p.1)
      refused (ended.Refused why) p = absurd (no_play _ p.2)
