-- What a command promises of a capture, from what reading it said and from the last line.
use Rattle.std.proofs.Common.{◌≡◌, ℕ, ◌⊎◌, inl, inr, List, [], length, take, Option, Some, None}
use Rattle.std.proofs.Common.{Result, Ok, Err, refl, sym, subst, ap, arith}
use Rattle.std.proofs.lemmas.Bool.Decides.{nat_tests}
use Rattle.std.proofs.lemmas.List.{take_all}
use Rattle.std.specs.Prelude.{IfErr, OnErr, OnOk, option_map}
use Rattle.mc_wire.specs.Count.{Rose, StandsOrRises}
use Rattle.mc_wire.specs.Stream.{Grows}
use Rattle.mc_text.specs.Passes.{SendsPart}
use Rattle.mc_text.proofs.Growing.{grows_two}
use Rattle.mc_capture.specs.declared.fault.CaptureEnd.{CaptureEnd}
use Rattle.mc_capture.specs.declared.fault.CaptureEnd.TheVariants as ends
use Rattle.mc_capture.specs.declared.fault.CaptureFault.{CaptureFault}
use Rattle.mc_capture.specs.declared.record.Record.{Record}
use Rattle.mc_capture.specs.OneTextLaws.{EndIsSized, one_reading}
use Rattle.mc_capture.specs.Viewed.{EndsView, IsRead, IsViewed, IsViewedInPart, faults_of}
use Rattle.mc_capture.specs.Viewed.IsRead.{headed, headless}
use Rattle.mc_show.specs.Shown.{EndsShow, ShowsClient, ShowsInPart}
use Rattle.mc_words.specs.declared.bad_input.BadInput.{BadInput}
use Rattle.mc_words.specs.declared.ended.Ended.{Ended}
use Rattle.mc_words.specs.declared.ended.Ended.TheVariants as ended
use Rattle.mc_words.specs.Devices.{Streams, WroteLast, WroteTextThenLast, streams}
use Rattle.mc_words.specs.Ended.{bad_input_line, read_fault_line, status_of}
use Rattle.mc_words.specs.Finishing.{Finishes}
use Rattle.mc_top.specs.CapturePromise.{AreFirst, CapturePromise, CaptureText, CapturedText}
use Rattle.mc_top.specs.CapturePromise.{IsCaptureFault, IsPart, bad_of, ended_by_read}
use Rattle.mc_top.specs.CapturePromise.{IsSizedEnd, shown, viewed}

-- ---- before the last line

-- records that were read begin a capture
first_read : (left left' : Option (List ℕ)) (records : List Record) (end : Option CaptureFault) →
    IsRead left left' records end → AreFirst left records
first_read left left' records end (headless fault is none found) = inl none
first_read left left' records end (headed behind begins ends) = inr (behind, begins)

-- a first part of a client's world was written
part_shown : (client : ℕ) (left left' held held' : Option (List ℕ))
    (reads reads' writes writes' : ℕ) → ShowsInPart client left left' held held' →
    IsPart (shown client) (streams left reads held writes) (streams left' reads' held' writes')
part_shown client left left' held held' reads reads' writes writes' part = record {
  records = part.records;
  first = first_read left left' part.records None part.reads;
  wrote = part.wrote;
}

-- a view, by its clauses
pub view_captured : (r : Result (Unit {0}) CaptureEnd) (left left' held held' : Option (List ℕ))
    (reads reads' writes writes' : ℕ) → OnOk r (IsViewed None left left' held held') →
    OnErr r (IsViewedInPart left held held') → IfErr r (λ end. EndsView end left left' held held'
    (faults_of reads writes) (faults_of reads' writes')) → IfErr r IsSizedEnd →
    StandsOrRises writes writes' →
    CapturedText viewed (ended_by_read r) (streams left reads held writes)
    (streams left' reads' held' writes')
view_captured (Ok u) left left' held held' reads reads' writes writes' all part why sized counts =
    record { records = all.records; reads = all.reads; wrote = all.wrote }
view_captured (Err (ends.Bad fault)) left left' held held' reads reads' writes writes' all part why
    sized counts = record {
      fault = fault;
      sized = sized;
      is = refl;
      records = why.records;
      reads = why.reads;
      wrote = (why.wrote, counts);
    }
view_captured (Err ends.Read) left left' held held' reads reads' writes writes' all part why sized
    counts = record {
      rose = why;
      records = part.records;
      first = part.begins;
      many = part.wrote.0;
      wrote = (part.wrote.1, counts);
    }
view_captured (Err ends.Write) left left' held held' reads reads' writes writes' all part why sized
    counts =
    (why, record { records = part.records; first = part.begins; wrote = part.wrote })
view_captured (Err ends.NoMemory) left left' held held' reads reads' writes writes' all part why
    sized counts = record { records = part.records; first = part.begins; wrote = part.wrote }

-- a client's world that is shown, by its clauses
pub show_captured : (client : ℕ) (r : Result (Unit {0}) CaptureEnd)
    (left left' held held' : Option (List ℕ)) (reads reads' writes writes' : ℕ) →
    OnOk r (ShowsClient client left left' held held') → IfErr r (λ end. EndsShow client end left left'
    held held' (faults_of reads writes) (faults_of reads' writes')) → IfErr r IsSizedEnd →
    StandsOrRises writes writes' →
    CapturedText (shown client) (ended_by_read r) (streams left reads held writes)
    (streams left' reads' held' writes')
show_captured client (Ok u) left left' held held' reads reads' writes writes' all why sized counts =
    record { records = all.records; reads = all.reads; wrote = all.wrote }
show_captured client (Err (ends.Bad fault)) left left' held held' reads reads' writes writes' all why
    sized counts = record {
      fault = fault;
      sized = sized;
      is = refl;
      records = why.0.records;
      reads = why.0.reads;
      wrote = (why.1, counts);
    }
show_captured client (Err ends.Read) left left' held held' reads reads' writes writes' all why sized
    counts =
    record { rose = why.0; records = []; first = inl refl; many = 0; wrote = (why.1, counts) }
show_captured client (Err ends.Write) left left' held held' reads reads' writes writes' all why sized
    counts = (why.0, part_shown client left left' held held' reads reads' writes writes' why.1)
show_captured client (Err ends.NoMemory) left left' held held' reads reads' writes writes' all
    (inl none) sized counts =
    record { records = []; first = inl refl; wrote = (0, none) }
show_captured client (Err ends.NoMemory) left left' held held' reads reads' writes writes' all
    (inr part) sized counts = part_shown client left left' held held' reads reads' writes writes' part

-- ---- with the last line

rose_after : (old mid new : ℕ) → StandsOrRises old mid → Rose mid new → Rose old new
rose_after old mid new counts rose = grind (arith, nat_tests)

-- a last line behind a text
wrote_both : (held mid held' : Option (List ℕ)) (old half new : ℕ) (text line : List ℕ) →
    Grows held mid text → StandsOrRises old half → WroteLast mid held' half new line →
    WroteTextThenLast held held' old new text line
wrote_both held mid held' old half new text line grows counts wrote =
    grind (arith, nat_tests, grows_two, rose_after)

-- what is written while a capture is read is some first part of its text
abbrev pub IsText : CaptureText → Type 0
IsText text = (records : List Record) → (n : ℕ) × (text.underway records ≡ take n (text.whole records))

pub viewed_is_text : IsText viewed
viewed_is_text records =
    let text = viewed.whole records in (length text, sym (take_all (length text) text (omega arith)))

pub shown_is_text : (client : ℕ) → IsText (shown client)
shown_is_text client records = (0, refl)

pub capture_kept : (text : CaptureText) (how result : Ended)
    (left left' held held' held'' : Option (List ℕ)) (reads reads' faults faults' faults'' : ℕ) →
    IsText text → CapturedText text how (streams left reads held faults)
    (streams left' reads' held' faults') → Finishes how result held' held'' faults' faults'' →
    CapturePromise text result (streams left reads held faults)
    (streams left' reads' held'' faults'')
capture_kept text how result left left' held held' held'' reads reads' faults faults' faults''
    is_text = by how
  where
    before : Streams
    before = streams left reads held faults

    P : Ended → Option (List ℕ) → ℕ → Type 0
    P e h f = CapturePromise text e before (streams left' reads' h f)

    Said : Ended → Type 0
    Said e = CapturedText text e before (streams left' reads' held' faults')

    same : (e : Ended) → (result ≡ e) × ((held'' ≡ held') × (faults'' ≡ faults')) →
        P e held' faults' → P result held'' faults''
    same e is p = rw (is.0, is.1.0, is.1.1) p

    part_of : (bad : BadInput) → Said (ended.BadInput bad) →
        IsPart text before (streams left' reads' held' faults')
    part_of bad said =
        let part = is_text said.records in
        let G : List ℕ → Type 0 = λ t. Grows held held' t in
        record {
          records = said.records;
          first = first_read left left' said.records (Some said.fault) said.reads;
          wrote = (part.0, subst G part.1 said.wrote.0);
        }

    by : (e : Ended) → Said e → Finishes e result held' held'' faults' faults'' →
        P result held'' faults''
    by ended.Done said last = same ended.Done last
        (record { records = said.records; reads = said.reads; wrote = said.wrote })
    by ended.NoMemory said last = same ended.NoMemory last said
    by ended.Usage said last = absurd said
    by ended.NetFault said last = absurd said
    by (ended.Budget n) said last = absurd said
    by (ended.Refused why) said last = absurd said
    by ended.ReadFault said last = rw last.0 (record {
      rose = said.rose;
      records = said.records;
      first = said.first;
      many = said.many;
      wrote = wrote_both held held' held'' faults faults' faults''
          (take said.many (text.underway said.records)) read_fault_line said.wrote.0 said.wrote.1
          last.1;
    })
    by ended.WriteFault said last = same ended.WriteFault last said
    by (ended.BadInput bad) said (inl last) = rw last.0 (record {
      fault = said.fault;
      sized = said.sized;
      is = said.is;
      records = said.records;
      reads = said.reads;
      wrote = wrote_both held held' held'' faults faults' faults'' (text.underway said.records)
          (bad_input_line bad) said.wrote.0 said.wrote.1 last.1;
    })
    by (ended.BadInput bad) said (inr last) = same ended.NoMemory last (part_of bad said)

-- ---- what follows from it

-- a capture is not one with a fault
one_end : (input : List ℕ) (left left' : Option (List ℕ)) (records : List Record)
    (end : Option CaptureFault) (bad : Option BadInput) → IsRead left left' records end →
    EndIsSized end → left ≡ Some input → IsCaptureFault input bad → option_map bad_of end ≡ bad
one_end input None left' records end bad reads sized is first = absurd cc
one_end input (Some all) left' records end bad reads sized is first =
    let R : Option (List ℕ) → Type 0 = λ l. IsRead l left' records end in
    let one = one_reading input left' first.left records first.records end first.end sized
    first.sized (subst R is reads) first.reads in
    rw one.1 first.is

module _ (text : CaptureText) (how : Ended) (before after : Streams) (input : List ℕ) where
  -- a capture is told whole, unless memory runs out or a device fails
  pub capture_served : CapturePromise text how before after → before.left ≡ Some input →
      IsCaptureFault input None → ¬ Rose before.read_faults after.read_faults →
      ¬ Rose before.write_faults after.write_faults → (how ≡ ended.Done) ⊎ (how ≡ ended.NoMemory)
  capture_served p is fine reads writes = served how p
    where
      served : (e : Ended) → CapturePromise text e before after →
          (e ≡ ended.Done) ⊎ (e ≡ ended.NoMemory)
      served ended.Done p = inl refl
      served ended.NoMemory p = inr refl
      served ended.Usage p = absurd p
      served ended.NetFault p = absurd p
      served (ended.Budget n) p = absurd p
      served (ended.Refused why) p = absurd p
      served ended.ReadFault p = absurd (reads p.rose)
      served ended.WriteFault p = absurd (writes p.0)
      served (ended.BadInput bad) p = absurd (let e = one_end input before.left after.left p.records
          (Some p.fault) None p.reads p.sized is fine in cc)

  -- and what is none is refused
  pub capture_refused : (bad : BadInput) → CapturePromise text how before after →
      before.left ≡ Some input → IsCaptureFault input (Some bad) →
      ¬ Rose before.read_faults after.read_faults → ¬ Rose before.write_faults after.write_faults →
      (status_of how ≡ 6) ⊎ (status_of how ≡ 1)
  capture_refused bad p is wrong_ reads writes = refused how p
    where
      refused : (e : Ended) → CapturePromise text e before after →
          (status_of e ≡ 6) ⊎ (status_of e ≡ 1)
      refused ended.Done p = absurd (let e = one_end input before.left after.left p.records
          None (Some bad) p.reads tt is wrong_ in cc)
      refused ended.NoMemory p = inr refl
      refused ended.Usage p = absurd p
      refused ended.NetFault p = absurd p
      refused (ended.Budget n) p = absurd p
      refused (ended.Refused why) p = absurd p
      refused ended.ReadFault p = absurd (reads p.rose)
      refused ended.WriteFault p = absurd (writes p.0)
      refused (ended.BadInput other) p = inl refl
