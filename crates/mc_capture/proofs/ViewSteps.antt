-- A capture that is shown record by record: what was read of it, and what was written.
use Rattle.std.proofs.Common.{◌≡◌, ℕ, ◌+◌, ◌==◌, List, [], ◌∷◌}
use Rattle.std.proofs.Common.{◌++◌, length, take, refl, sym, subst}
use Rattle.std.proofs.Common.{ap, ◌∙◌, append_assoc, arith, Option, Some, None, ◌⊎◌, inl, inr}
use Rattle.std.specs.Prelude.{if◌then◌else◌, Result, Ok, Err, OnOk, OnErr}
use Rattle.std.specs.Prelude.{IfErr, Bool, true, false, cond}
use Rattle.std.specs.List.{AllByRecursion}
use Rattle.std.specs.Cmp.{nat_cmp_total}
use Rattle.std.specs.FinMap.{FinMap, empty, get, get-empty, get-insert, insert}
use Rattle.std.specs.Ordering.{eq_by_cmp, nat_cmp}
use Rattle.std.proofs.lemmas.Bool.Decides.{nat_tests}
use Rattle.std.proofs.lemmas.List.{append-nil, length-append, take_all}
use Rattle.std.proofs.Math.Seq.{take-append-add}
use Rattle.mc_wire.specs.Count.{Rose, StandsOrRises}
use Rattle.mc_wire.specs.Stream.{Consumes, Grows, IsAtEnd}
use Rattle.mc_wire.proofs.Streams.{Consumes-trans, Grows-refl, Grows-trans}
use Rattle.mc_capture.specs.declared.fault.CaptureFault.{CaptureFault}
use Rattle.mc_capture.specs.declared.record.Record.{Record}
use Rattle.mc_capture.specs.Grammar.{IsRecord, capture_head, record_bytes, records_bytes}
use Rattle.mc_capture.specs.Reading.{EndsHead, EndsSo, FindsNoHead}
use Rattle.mc_capture.specs.Reading.{FindsWrong, kept_place}
use Rattle.mc_capture.specs.declared.fault.CaptureEnd.{CaptureEnd}
use Rattle.mc_capture.specs.declared.fault.CaptureEnd.TheVariants as ends
use Rattle.mc_capture.specs.declared.states.Way.TheVariants.{Up, Down}
use Rattle.mc_capture.specs.Gathering.{Gathers, WritesPart}
use Rattle.mc_capture.specs.Talks.{Talk, new_talk, talk_after}
use Rattle.mc_capture.specs.Tables.{StandsFor, talk_in, talk_or_new}
use Rattle.mc_capture.specs.ViewText.{after_record, lines_behind, record_lines}
use Rattle.mc_capture.specs.ViewText.{talk_behind, talk_of}
use Rattle.mc_capture.specs.ViewText.{view_text}
use Rattle.mc_capture.specs.Viewed.{Begins, EndsShown, Faults, IsRead, IsShown}
use Rattle.mc_capture.specs.Viewed.{IsNumbered, IsViewed, IsViewedInPart, end_of, faults_of}
use Rattle.mc_capture.specs.Viewed.IsRead.{headed, headless}
use Rattle.mc_capture.proofs.Gatherings.{gathers_two, part_here, part_two}

-- ---- one record more

pub talk_one_more : (k : ℕ) (talk : Talk) (records : List Record) (r : Record)
    → talk_behind k talk (records ++ r ∷ [])
    ≡ (if r.connection == k then after_record (talk_behind k talk records) r
    else talk_behind k talk records)
talk_one_more k talk [] r = refl
talk_one_more k talk (q ∷ records) r =
    talk_one_more k (if q.connection == k then after_record talk q else talk) records r

lines_one_more : (earlier records : List Record) (r : Record)
    → lines_behind earlier (records ++ r ∷ [])
    ≡ lines_behind earlier records ++ record_lines (talk_of r.connection (earlier ++ records)) r
lines_one_more earlier [] r =
    append-nil (record_lines (talk_of r.connection earlier) r)
    ∙ ap (λ (rs : List Record). record_lines (talk_of r.connection rs) r)
    (sym (append-nil earlier))
lines_one_more earlier (q ∷ records) r =
    let first = record_lines (talk_of q.connection earlier) q in
    let rest = lines_behind (earlier ++ q ∷ []) records in
    ap (λ (t : List ℕ). first ++ t) (lines_one_more (earlier ++ q ∷ []) records r)
    ∙ ap (λ (rs : List Record). first ++ (rest ++ record_lines (talk_of r.connection rs) r))
    (append_assoc earlier (q ∷ []) records)
    ∙ sym (append_assoc first rest (record_lines (talk_of r.connection (earlier ++ q ∷ records)) r))

view_one_more : (records : List Record) (r : Record)
    → view_text (records ++ r ∷ [])
    ≡ view_text records ++ record_lines (talk_of r.connection records) r
unfolding view_text
view_one_more records r = lines_one_more [] records r

view_none : view_text [] ≡ []
unfolding view_text
view_none = refl

bytes_one_more : (records : List Record) (r : Record)
    → records_bytes (records ++ r ∷ []) ≡ records_bytes records ++ record_bytes r
bytes_one_more [] r = append-nil (record_bytes r)
bytes_one_more (q ∷ records) r =
    ap (λ (t : List ℕ). record_bytes q ++ t) (bytes_one_more records r)
    ∙ sym (append_assoc (record_bytes q) (records_bytes records) (record_bytes r))

all_one_more : (P : Record → Type 0) (records : List Record) (r : Record)
    → AllByRecursion P records → P r → AllByRecursion P (records ++ r ∷ [])
all_one_more P [] r all one = (one, tt)
all_one_more P (q ∷ records) r all one = (all.0, all_one_more P records r all.1 one)

-- ---- on the way

-- these records were read, and their lines gathered
pub record IsViewing (old left held held' : Option (List ℕ)) (waits : List ℕ) (at : ℕ)
    (talks : FinMap nat_cmp Talk) : Type 0 where
  pub records : List Record
  pub begins : Begins old left records
  pub place : at ≡ kept_place (end_of records)
  pub stands : StandsFor talks records
  pub gathers : Gathers held held' (view_text records) waits

nothing_stands : (k : ℕ) → talk_in empty k ≡ new_talk
nothing_stands k = ap talk_or_new (get-empty nat_cmp k)

pub viewing_first : (old left held : Option (List ℕ)) (waits : List ℕ)
    (talks : FinMap nat_cmp Talk)
    → Consumes old left capture_head
    → waits ≡ []
    → talks ≡ empty
    → IsViewing old left held held waits 8 talks
viewing_first old left held waits talks head none new =
    let P : List ℕ → Type 0 = λ t. Consumes old left t in
    record {
      records = [];
      begins = record {
        are_records = tt;
        are_numbered = tt;
        consumed = subst P (sym (append-nil capture_head)) head;
      };
      place = omega arith;
      stands = λ k. ap (λ (m : FinMap nat_cmp Talk). talk_in m k) new ∙ nothing_stands k;
      gathers = record { out = []; wrote = Grows-refl held; parts = view_none ∙ sym none };
    }

pub begins_next : (old left new : Option (List ℕ)) (records : List Record) (r : Record)
    → Begins old left records → IsRecord r → IsNumbered r → Consumes left new (record_bytes r)
    → Begins old new (records ++ r ∷ [])
begins_next old left new records r b one numbered consumed =
    let P : List ℕ → Type 0 = λ t. Consumes old new t in
    record {
      are_records = all_one_more IsRecord records r b.are_records one;
      are_numbered = all_one_more IsNumbered records r b.are_numbered numbered;
      consumed = subst P (append_assoc capture_head (records_bytes records) (record_bytes r)
          ∙ ap (λ (t : List ℕ). capture_head ++ t) (sym (bytes_one_more records r)))
          (Consumes-trans old left new (capture_head ++ records_bytes records) (record_bytes r)
          b.consumed consumed);
    }

pub place_next : (at next : ℕ) (records : List Record) (r : Record)
    → at ≡ kept_place (end_of records)
    → next ≡ kept_place (at + length (record_bytes r))
    → next ≡ kept_place (end_of (records ++ r ∷ []))
place_next at next records r place is =
    let all = ap length (bytes_one_more records r) in
    let sum = length-append (records_bytes records) (record_bytes r) in
    omega (arith, place, is, all, sum)

lines_here : (records : List Record) (r : Record) (talks : FinMap nat_cmp Talk)
    → StandsFor talks records
    → view_text records ++ record_lines (talk_in talks r.connection) r
    ≡ view_text (records ++ r ∷ [])
lines_here records r talks stands =
    ap (λ (talk : Talk). view_text records ++ record_lines talk r) (stands r.connection)
    ∙ sym (view_one_more records r)

pub viewing_next : (old left new held middle held' : Option (List ℕ)) (half waits : List ℕ)
    (at next : ℕ) (talks later : FinMap nat_cmp Talk) (r : Record)
    → IsViewing old left held middle half at talks
    → IsRecord r
    → IsNumbered r
    → Consumes left new (record_bytes r)
    → next ≡ kept_place (at + length (record_bytes r))
    → Gathers middle held' (half ++ record_lines (talk_in talks r.connection) r) waits
    → ((k : ℕ) → talk_in later k
    ≡ (if r.connection == k then after_record (talk_in talks k) r else talk_in talks k))
    → IsViewing old new held held' waits next later
viewing_next old left new held middle held' half waits at next talks later r v one numbered
    consumed place g is =
    let P : List ℕ → Type 0 = λ t. Gathers held held' t waits in
    record {
      records = v.records ++ r ∷ [];
      begins = begins_next old left new v.records r v.begins one numbered consumed;
      place = place_next at next v.records r v.place place;
      stands = λ k. is k
          ∙ ap (λ (t : Talk). if r.connection == k then after_record t r else t) (v.stands k)
          ∙ sym (talk_one_more k new_talk v.records r);
      gathers = subst P (lines_here v.records r talks v.stands)
          (gathers_two held middle held' [] (view_text v.records) half
          (record_lines (talk_in talks r.connection) r) waits v.gathers g);
    }

-- ---- where it ends

pub viewing_ends : (old left new held held' : Option (List ℕ)) (waits : List ℕ) (at : ℕ)
    (talks : FinMap nat_cmp Talk)
    → IsViewing old left held held' waits at talks
    → Consumes left new [] × IsAtEnd new
    → IsShown None old new held held' waits
viewing_ends old left new held held' waits at talks v ends =
    record { records = v.records; reads = headed left v.begins ends; gathers = v.gathers }

pub wrong_there : (fault : CaptureFault) (at place : ℕ) (left new : Option (List ℕ))
    → at ≡ kept_place place → FindsWrong fault at left new → FindsWrong fault place left new
wrong_there fault at place left new is w = record {
  bytes = w.bytes;
  consumed = w.consumed;
  fault_of = record {
    before = w.fault_of.before;
    wrong = w.fault_of.wrong;
    place = (let there = w.fault_of.place in omega (arith, is, there));
  };
  end = w.end;
}

pub viewing_wrong : (fault : CaptureFault) (old left new held held' : Option (List ℕ))
    (waits : List ℕ) (at : ℕ) (talks : FinMap nat_cmp Talk)
    → IsViewing old left held held' waits at talks
    → FindsWrong fault at left new
    → IsShown (Some fault) old new held held' waits
viewing_wrong fault old left new held held' waits at talks v wrong = record {
  records = v.records;
  reads = headed left v.begins (wrong_there fault at (end_of v.records) left new v.place wrong);
  gathers = v.gathers;
}

pub headless_shown : (fault : CaptureFault) (old new held : Option (List ℕ)) (waits : List ℕ)
    → FindsNoHead fault old new
    → waits ≡ []
    → IsShown (Some fault) old new held held waits
headless_shown fault old new held waits found none = record {
  records = [];
  reads = headless fault refl refl found;
  gathers = record { out = []; wrote = Grows-refl held; parts = view_none ∙ sym none };
}

-- ---- where it is cut off

pub nothing_viewed : (old held : Option (List ℕ)) → IsViewedInPart old held held
nothing_viewed old held =
    record { records = []; begins = inl refl; wrote = (0, Grows-refl held) }

pub viewing_stops : (old left held held' : Option (List ℕ)) (waits : List ℕ) (at : ℕ)
    (talks : FinMap nat_cmp Talk)
    → IsViewing old left held held' waits at talks
    → IsViewedInPart old held held'
viewing_stops old left held held' waits at talks v =
    let P : List ℕ → Type 0 = λ t. WritesPart held held' t in
    record {
      records = v.records;
      begins = inr (left, v.begins);
      wrote = subst P (append-nil (view_text v.records))
          (part_here held held' (view_text v.records) waits [] v.gathers);
    }

pub viewing_breaks : (old left new held middle held' : Option (List ℕ)) (half : List ℕ) (at : ℕ)
    (talks : FinMap nat_cmp Talk) (r : Record)
    → IsViewing old left held middle half at talks
    → IsRecord r
    → IsNumbered r
    → Consumes left new (record_bytes r)
    → WritesPart middle held' (half ++ record_lines (talk_in talks r.connection) r)
    → IsViewedInPart old held held'
viewing_breaks old left new held middle held' half at talks r v one numbered consumed part =
    let P : List ℕ → Type 0 = λ t. WritesPart held held' t in
    record {
      records = v.records ++ r ∷ [];
      begins = inr (new, begins_next old left new v.records r v.begins one numbered consumed);
      wrote = subst P (lines_here v.records r talks v.stands)
          (part_two held middle held' [] (view_text v.records) half
          (record_lines (talk_in talks r.connection) r) v.gathers part);
    }

-- ---- the last lines

begun : (end : Option CaptureFault) (old new : Option (List ℕ)) (records : List Record)
    → IsRead old new records end
    → (records ≡ []) ⊎ ((behind : Option (List ℕ)) × Begins old behind records)
begun end old new records (headless fault is none found) = inl none
begun end old new records (headed behind begins ends) = inr (behind, begins)

pub shown_all : (end : Option CaptureFault) (old new held middle held' : Option (List ℕ))
    (waits : List ℕ)
    → IsShown end old new held middle waits
    → Grows middle held' waits
    → IsViewed end old new held held'
shown_all end old new held middle held' waits s grown =
    let P : List ℕ → Type 0 = λ t. Grows held held' t in
    record {
      records = s.records;
      reads = s.reads;
      wrote = subst P (sym s.gathers.parts)
          (Grows-trans held middle held' s.gathers.out waits s.gathers.wrote grown);
    }

pub shown_part : (end : Option CaptureFault) (old new held middle held' : Option (List ℕ))
    (waits : List ℕ)
    → IsShown end old new held middle waits
    → WritesPart middle held' waits
    → IsViewedInPart old held held'
shown_part end old new held middle held' waits s part =
    let P : List ℕ → Type 0 = λ t. Grows held held' t in
    record {
      records = s.records;
      begins = begun end old new s.records s.reads;
      wrote = (
        length s.gathers.out + part.0,
        subst P (sym (ap (take (length s.gathers.out + part.0)) s.gathers.parts
            ∙ take-append-add s.gathers.out waits part.0))
            (Grows-trans held middle held' s.gathers.out (take part.0 waits) s.gathers.wrote
            part.1),
      );
    }

pub viewed_part : (end : Option CaptureFault) (old new held held' : Option (List ℕ))
    → IsViewed end old new held held'
    → IsViewedInPart old held held'
viewed_part end old new held held' v =
    let text = view_text v.records in
    let P : List ℕ → Type 0 = λ t. Grows held held' t in
    record {
      records = v.records;
      begins = begun end old new v.records v.reads;
      wrote = (length text, subst P (sym (take_all (length text) text (omega arith))) v.wrote);
    }

-- ---- the table after a record of bytes

pub on_ok_then : {A E : Type 0} {P Q : Type 0} (r : Result A E) → OnOk r P → (P → Q) → OnOk r Q
on_ok_then (Ok x) p f = f p
on_ok_then (Err e) p f = tt

pub if_err_then : {A E : Type 0} {P Q : E → Type 0} (r : Result A E) → IfErr r P
    → ((e : E) → P e → Q e) → IfErr r Q
if_err_then (Ok x) p f = tt
if_err_then (Err e) p f = f e p

pub table_put : (talks new : FinMap nat_cmp Talk) (r : Record)
    → new ≡ insert talks r.connection (after_record (talk_in talks r.connection) r)
    → (j : ℕ) → talk_in new j
    ≡ (if r.connection == j then after_record (talk_in talks j) r else talk_in talks j)
table_put talks new r is j =
    ap (λ (m : FinMap nat_cmp Talk). talk_in m j) is
    ∙ ap talk_or_new (get-insert nat_cmp_total talks r.connection
    (after_record (talk_in talks r.connection) r) j)
    ∙ step (eq_by_cmp nat_cmp j r.connection) (r.connection == j) refl refl
  where
    step : (b t : Bool) → eq_by_cmp nat_cmp j r.connection ≡ b → (r.connection == j) ≡ t
        → talk_or_new (cond b (Some (after_record (talk_in talks r.connection) r)) (get talks j))
        ≡ cond t (after_record (talk_in talks j) r) (talk_in talks j)
    step true true b t =
        let same : r.connection ≡ j = grind (arith, nat_tests, b, t) in
        ap (λ (i : ℕ). after_record (talk_in talks i) r) same
    step true false b t = absurd (grind (arith, nat_tests, b, t))
    step false true b t = absurd (grind (arith, nat_tests, b, t))
    step false false b t = refl

pub after_up : (talk : Talk) (r : Record) (bytes : List ℕ) → r.kind ≡ 1 → bytes ≡ r.bytes
    → talk_after r.connection Up talk bytes ≡ after_record talk r
after_up talk r bytes kind is =
    ap (λ (t : List ℕ). talk_after r.connection Up talk t) is
    ∙ sym (ap (λ (n : ℕ). if n == 1 then talk_after r.connection Up talk r.bytes
    else if n == 4 then talk_after r.connection Down talk r.bytes else talk) kind)

pub after_down : (talk : Talk) (r : Record) (bytes : List ℕ) → r.kind ≡ 4 → bytes ≡ r.bytes
    → talk_after r.connection Down talk bytes ≡ after_record talk r
after_down talk r bytes kind is =
    ap (λ (t : List ℕ). talk_after r.connection Down talk t) is
    ∙ sym (ap (λ (n : ℕ). if n == 1 then talk_after r.connection Up talk r.bytes
    else if n == 4 then talk_after r.connection Down talk r.bytes else talk) kind)

-- ---- ends

pub head_ends : (end : CaptureEnd) (old new held : Option (List ℕ)) (waits : List ℕ)
    (was is out : ℕ)
    → waits ≡ []
    → EndsHead end old new was is
    → EndsShown end old new held held waits (faults_of was out) (faults_of is out)
head_ends (ends.Bad fault) old new held waits was is out none e =
    headless_shown fault old new held waits e none
head_ends ends.Read old new held waits was is out none e = e
head_ends ends.Write old new held waits was is out none e = absurd e
head_ends ends.NoMemory old new held waits was is out none e = absurd e

pub rose_later : (a b c : ℕ) → StandsOrRises a b → Rose b c → Rose a c
rose_later a b c (inl same) rose = let P : ℕ → Type 0 = λ n. Rose n c in subst P same rose
rose_later a b c (inr never) (inl less) = inl (omega (arith, never.0, less))
rose_later a b c (inr never) (inr top) = inr top

pub record_ends : (end : CaptureEnd) (old left new held held' : Option (List ℕ)) (waits : List ℕ)
    (at : ℕ) (talks : FinMap nat_cmp Talk) (first was is out out' : ℕ)
    → IsViewing old left held held' waits at talks
    → StandsOrRises first was
    → EndsSo end at left new was is
    → EndsShown end old new held held' waits (faults_of first out) (faults_of is out')
record_ends (ends.Bad fault) old left new held held' waits at talks first was is out out' v s e =
    viewing_wrong fault old left new held held' waits at talks v e
record_ends ends.Read old left new held held' waits at talks first was is out out' v s e =
    rose_later first was is s e
record_ends ends.Write old left new held held' waits at talks first was is out out' v s e =
    absurd e
record_ends ends.NoMemory old left new held held' waits at talks first was is out out' v s e = tt

pub on_err_then : {A E : Type 0} {P Q : Type 0} (r : Result A E) → OnErr r P → (P → Q) → OnErr r Q
on_err_then (Ok x) p f = tt
on_err_then (Err e) p f = f p

pub bad_shown : {A : Type 0} (r : Result A CaptureEnd) (end : CaptureEnd) (fault : CaptureFault)
    (old new held held' : Option (List ℕ)) (waits : List ℕ) (was is : Faults)
    → IfErr r (λ e. EndsShown e old new held held' waits was is)
    → r ≡ Err end
    → end ≡ ends.Bad fault
    → IsShown (Some fault) old new held held' waits
bad_shown {A} r end fault old new held held' waits was is given failed bad =
    let P : Result A CaptureEnd → Type 0 = λ t. IfErr t (λ e. EndsShown e old new held held' waits
    was is) in
    let Q : CaptureEnd → Type 0 = λ e. EndsShown e old new held held' waits was is in
    subst Q bad (subst P failed given)
