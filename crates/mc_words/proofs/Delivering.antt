-- What a command delivers that reads a text, before its last line is written and with it.
use Rattle.std.proofs.Common.{◌≡◌, ℕ, ◌+◌, ◌⊎◌, inl, inr, List, [], ◌++◌, length, Option}
use Rattle.std.proofs.Common.{Some, None, Result, Ok, Err, refl, sym, subst, arith}
use Rattle.std.specs.Prelude.{IfOk, IfSome, IsErrOf, OnErr, OnOk}
use Rattle.std.proofs.lemmas.List.{append-nil, take_all}
use Rattle.std.proofs.lemmas.Bool.Decides.{nat_tests}
use Rattle.mc_wire.specs.Count.{Rose, StandsOrRises}
use Rattle.mc_wire.specs.Stream.{Grows, IsAtEnd}
use Rattle.mc_words.specs.declared.bad_input.BadInput.{BadInput}
use Rattle.mc_words.specs.declared.ended.Ended.{Ended}
use Rattle.mc_words.specs.declared.ended.Ended.TheVariants as ended
use Rattle.mc_text.specs.declared.unfinished.Unfinished.{Unfinished}
use Rattle.mc_text.specs.declared.unfinished.Unfinished.TheVariants.{Failed, NoMemory}
use Rattle.mc_words.specs.Delivers.{Delivered, Delivers, Part}
use Rattle.mc_text.specs.Lines.{ReadsText}
use Rattle.mc_words.specs.Devices.{Streams, WroteLast, WroteTextThenLast, streams}
use Rattle.mc_words.specs.Ended.{bad_input_line, ended_told, status_of}
use Rattle.mc_words.specs.Finishing.{Finishes}
use Rattle.mc_text.specs.Lines.{text_max}
use Rattle.mc_text.specs.Passes.{SendsPart}
use Rattle.mc_words.specs.Told.{IsToldOf, Tells, Told}
use Rattle.mc_text.proofs.Growing.{grows_none, grows_two}

-- what is told of a text follows from its first bytes up to one past the most, and has a fault
-- where it has so many
pub record IsTelling (told : List ℕ → Told) : Type 0 where
  pub front : (front more : List ℕ) → length front ≡ text_max + 1 →
      told (front ++ more) ≡ told front
  pub long : (text : List ℕ) → length text ≡ text_max + 1 → (told text).fault ≡ None → ⊥

-- ---- what was read

-- a text that is not too long was read to its end
whole_read : (left left' : Option (List ℕ)) (bytes : List ℕ) → ReadsText left left' bytes →
    (length bytes ≡ text_max + 1 → ⊥) → IsAtEnd left'
whole_read left left' bytes read fits = grind (arith, nat_tests)

-- what is known of the bytes that were read is known of all that was left, where that is told, if
-- it is alike for a text that is too long and its first bytes
pub of_read : {A : Type 0} (f : List ℕ → A) (P : A → Type 0) (left left' : Option (List ℕ))
    (bytes : List ℕ) → ((front more : List ℕ) → length front ≡ text_max + 1 →
    f (front ++ more) ≡ f front) → ReadsText left left' bytes → P (f bytes) →
    IfSome left (λ input. P (f input))
of_read f P left left' bytes alike read p = grind (arith, nat_tests, append-nil)

-- what is told of the bytes that were read is told of all that was left
told_of_read : (told : List ℕ → Told) → IsTelling told → (left left' : Option (List ℕ))
    (bytes text : List ℕ) (fault : Option BadInput) → ReadsText left left' bytes →
    told bytes ≡ record { text = text; fault = fault } → IsToldOf told left text fault
told_of_read told telling None left' bytes text fault read is =
    record { input = bytes; left_is = tt; is = is }
told_of_read told telling (Some all) left' bytes text fault read is = record {
  input = all;
  left_is = refl;
  is = of_read told (λ (t : Told). t ≡ record { text = text; fault = fault }) (Some all) left'
      bytes telling.front read is;
}

-- ---- before the last line

-- what a writer answers, by its clauses
pub tells_of : (told : Told) (r : Result (Option BadInput) Unfinished)
    (held held' : Option (List ℕ)) (faults faults' : ℕ) → OnOk r (Grows held held' told.text) →
    IfOk r (λ fault. fault ≡ told.fault) → OnErr r (SendsPart held held' told.text) →
    (IsErrOf r Failed → Rose faults faults') → StandsOrRises faults faults' →
    Tells told r held held' faults faults'
tells_of told (Ok fault) held held' faults faults' wrote is part failed counts =
    (is, wrote, counts)
tells_of told (Err Failed) held held' faults faults' wrote is part failed counts =
    (failed refl, part)
tells_of told (Err NoMemory) held held' faults faults' wrote is part failed counts = part

told_is : (told : Told) (fault : Option BadInput) → fault ≡ told.fault →
    told ≡ record { text = told.text; fault = fault }
told_is told fault is = grind (arith, nat_tests)

-- a text was read, and what is told of it was written
pub delivered : (told : List ℕ → Told) (left left' held held' : Option (List ℕ))
    (reads reads' faults faults' : ℕ) (bytes : List ℕ)
    (r : Result (Option BadInput) Unfinished) → IsTelling told → ReadsText left left' bytes →
    Tells (told bytes) r held held' faults faults' →
    Delivered told (ended_told r) (streams left reads held faults)
    (streams left' reads' held' faults')
delivered told left left' held held' reads reads' faults faults' bytes (Ok None) telling read t =
    record {
      text = (told bytes).text;
      told_is = told_of_read told telling left left' bytes (told bytes).text None read
          (told_is (told bytes) None t.0);
      read = whole_read left left' bytes read (λ is. telling.long bytes is (sym t.0));
      wrote = t.1;
    }
delivered told left left' held held' reads reads' faults faults' bytes (Ok (Some bad)) telling read
    t = record {
      text = (told bytes).text;
      told_is = told_of_read told telling left left' bytes (told bytes).text (Some bad) read
          (told_is (told bytes) (Some bad) t.0);
      read = (bytes, read);
      wrote = (t.1, t.2);
    }
delivered told left left' held held' reads reads' faults faults' bytes (Err Failed) telling read t = (
  t.0,
  record {
    text = (told bytes).text;
    fault = (told bytes).fault;
    told_is = told_of_read told telling left left' bytes (told bytes).text (told bytes).fault read
        (told_is (told bytes) (told bytes).fault refl);
    wrote = t.1;
  },
)
delivered told left left' held held' reads reads' faults faults' bytes (Err NoMemory) telling read
    t = record {
      text = (told bytes).text;
      fault = (told bytes).fault;
      told_is = told_of_read told telling left left' bytes (told bytes).text (told bytes).fault read
          (told_is (told bytes) (told bytes).fault refl);
      wrote = t;
    }

-- nothing was written, since there was no memory for the text
pub delivered_none : (told : List ℕ → Told) (left left' held : Option (List ℕ))
    (reads reads' faults : ℕ) → Delivered told ended.NoMemory (streams left reads held faults)
    (streams left' reads' held faults)
delivered_none told None left' held reads reads' faults = record {
  text = (told []).text;
  fault = (told []).fault;
  told_is = record { input = []; left_is = tt; is = refl };
  wrote = (0, grows_none held);
}
delivered_none told (Some all) left' held reads reads' faults = record {
  text = (told all).text;
  fault = (told all).fault;
  told_is = record { input = all; left_is = refl; is = refl };
  wrote = (0, grows_none held);
}

-- a read failed
pub delivered_unread : (told : List ℕ → Told) (left left' held : Option (List ℕ))
    (reads reads' faults : ℕ) → Rose reads reads' →
    Delivered told ended.ReadFault (streams left reads held faults)
    (streams left' reads' held faults)
delivered_unread told left left' held reads reads' faults rose = (rose, (grows_none held, inl refl))

-- ---- with the last line

rose_after : (old middle new : ℕ) → StandsOrRises old middle → Rose middle new → Rose old new
rose_after old middle new h1 h2 = grind (arith, nat_tests)

-- a last line behind a text
wrote_both : (held middle held' : Option (List ℕ)) (old mid new : ℕ) (text line : List ℕ) →
    Grows held middle text → StandsOrRises old mid → WroteLast middle held' mid new line →
    WroteTextThenLast held held' old new text line
wrote_both held middle held' old mid new text line a counts h3 =
    grind (arith, nat_tests, grows_two, rose_after)

pub delivers : (told : List ℕ → Told) (how result : Ended)
    (left left' held held' held'' : Option (List ℕ)) (reads reads' faults faults' faults'' : ℕ) →
    Delivered told how (streams left reads held faults) (streams left' reads' held' faults') →
    Finishes how result held' held'' faults' faults'' →
    Delivers told result (streams left reads held faults) (streams left' reads' held'' faults'')
delivers told how result left left' held held' held'' reads reads' faults faults' faults'' =
    by how
  where
    before : Streams
    before = streams left reads held faults

    P : Ended → Option (List ℕ) → ℕ → Type 0
    P e h f = Delivers told e before (streams left' reads' h f)

    same : (e : Ended) → (result ≡ e) × ((held'' ≡ held') × (faults'' ≡ faults')) →
        P e held' faults' → P result held'' faults''
    same e is p = rw (is.0, is.1.0, is.1.1) p

    part_of : (bad : BadInput) →
        Delivered told (ended.BadInput bad) before (streams left' reads' held' faults') →
        Part told before (streams left' reads' held' faults')
    part_of bad d =
        let G : List ℕ → Type 0 = λ t. Grows held held' t in
        record {
          text = d.text;
          fault = Some bad;
          told_is = d.told_is;
          wrote = (
            length d.text,
            subst G (sym (take_all (length d.text) d.text (omega arith))) d.wrote.0,
          );
        }

    by : (e : Ended) → Delivered told e before (streams left' reads' held' faults') →
        Finishes e result held' held'' faults' faults'' → P result held'' faults''
    by ended.Done d f = same ended.Done f d
    by ended.NoMemory d f = same ended.NoMemory f d
    by ended.Usage d f = absurd d
    by ended.NetFault d f = absurd d
    by (ended.Budget n) d f = absurd d
    by (ended.Refused why) d f = absurd d
    by ended.ReadFault d f = rw f.0 (
      d.0,
      wrote_both held held' held'' faults faults' faults'' [] _ d.1.0 d.1.1 f.1,
    )
    by ended.WriteFault d f = same ended.WriteFault f d
    by (ended.BadInput bad) d (inl f) = rw f.0 (record {
      text = d.text;
      told_is = d.told_is;
      read = d.read;
      wrote = wrote_both held held' held'' faults faults' faults'' d.text (bad_input_line bad)
          d.wrote.0 d.wrote.1 f.1;
    })
    by (ended.BadInput bad) d (inr f) = same ended.NoMemory f (part_of bad d)

-- ---- what follows from it

-- an input with nothing wrong is delivered whole, unless memory runs out or a device fails
pub fine_delivered : (told : List ℕ → Told) (how : Ended) (before after : Streams)
    (input : List ℕ) → Delivers told how before after → before.left ≡ Some input →
    (told input).fault ≡ None → ¬ Rose before.read_faults after.read_faults →
    ¬ Rose before.write_faults after.write_faults → (how ≡ ended.Done) ⊎ (how ≡ ended.NoMemory)
fine_delivered told how before after input d is fine reads writes = grind (arith, nat_tests)

-- and one that has a fault is refused
pub bad_delivered : (told : List ℕ → Told) (how : Ended) (before after : Streams)
    (bad : BadInput) (input : List ℕ) → Delivers told how before after →
    before.left ≡ Some input → (told input).fault ≡ Some bad →
    ¬ Rose before.read_faults after.read_faults → ¬ Rose before.write_faults after.write_faults →
    (status_of how ≡ 6) ⊎ (status_of how ≡ 1)
bad_delivered told how before after bad input d is wrong_ reads writes = grind (arith, nat_tests)
