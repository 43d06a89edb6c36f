-- Laws of packets as rows, stated once for all tables.
use Rattle.std.specs.Prelude.{◌≡◌, ℕ, ◌≤◌, Bool, true, false, cond, List, [], ◌∷◌, ◌++◌, length}
use Rattle.std.specs.Prelude.{Result, Ok, Err, IfOk, refl}
use Rattle.std.proofs.Common.{sym, subst, ap, ◌∙◌, append_assoc, eqb-true}
use Rattle.std.proofs.lemmas.List.{append-nil}
use lib.IntN.{ℤ, pos, negsuc}
use Rattle.mc_bytes.specs.declared.fault.Stop.{Stop}
use Rattle.mc_bytes.specs.Reading.{Field, IsBytes, ◌>>=◌}
use Rattle.mc_bytes.specs.Format.{Anything}
use Rattle.mc_bytes.specs.CombineLaws.{bind_ok, ok_is, joined_length}
use Rattle.mc_fields.specs.declared.packet.RowFault.{RowFault}
use Rattle.mc_fields.specs.declared.packet.PacketFault.{PacketFault}
use Rattle.mc_fields.specs.declared.packet.PacketRead.{PacketRead}
use Rattle.mc_fields.specs.Varint.{SpellsVarint, varint_read, varint_spelling}
use Rattle.mc_fields.specs.VarintLaws.{varint_found, varint_only, varint_fit, varint_spelled}
use Rattle.mc_fields.specs.VarintLaws.{varint-fits, five}
use Rattle.mc_fields.specs.Row.Rows.{row, no_more, family}
use Rattle.mc_fields.specs.Row.{Row, Entry, Spells, Fits, spelling, append, most, IsRowOf, Rows}
use Rattle.mc_fields.specs.Row.{fields_read, lifted, is_id, is_one_of, size_of, id_read, whole}
use Rattle.mc_fields.specs.Row.{packet_read, IsTied, packet_of, GivesPacket}

pub append_spelling : {P : Type 0} (entry : Entry P) (out : List ℕ)
    → append entry out ≡ out ++ spelling entry
append_spelling entry out =
    entry.row.format.appended entry.fields (out ++ varint_spelling (pos entry.row.id))
    ∙ append_assoc out (varint_spelling (pos entry.row.id)) (entry.row.format.spelling entry.fields)

pub fits_spelled : {P : Type 0} (entry : Entry P) → Fits entry → Spells entry (spelling entry)
fits_spelled entry fits = record {
  id_bytes = varint_spelling (pos entry.row.id);
  field_bytes = entry.row.format.spelling entry.fields;
  parts = refl;
  id_spelled = varint_spelled 5 five (pos entry.row.id) (varint-fits (pos entry.row.id)
      (record { sfits = fits.0 }));
  fields_spelled = entry.row.format.spelled entry.fields fits.1;
}

pub spelled_fits : {P : Type 0} (entry : Entry P) (bytes : List ℕ) → Spells entry bytes → Fits entry
spelled_fits entry bytes s = (
  (varint_fit 5 (pos entry.row.id) s.id_bytes s.id_spelled).0.sfits,
  entry.row.format.fit entry.fields s.field_bytes s.fields_spelled,
)

-- no spelling of a packet is longer than is said of it
pub spells_bounded : {P : Type 0} (entry : Entry P) (bytes : List ℕ) → Spells entry bytes
    → length bytes ≤ most entry
spells_bounded entry bytes s =
    joined_length bytes s.id_bytes s.field_bytes 5 (entry.row.format.most entry.fields) s.parts
    s.id_spelled.within (entry.row.format.bounded entry.fields s.field_bytes s.fields_spelled)

-- ---- what is read is spelled so

-- the packet that was found by its id: each spelling of the id before these fields spells it
pub record Picked {P : Type 0} (entry_of : P → Entry P) (id : ℤ) (bytes : List ℕ) (x : P × List ℕ) :
    Type 0 where
  pub front : List ℕ
  pub parts : bytes ≡ front ++ x.1
  pub spelled : (id_bytes : List ℕ) → SpellsVarint 5 id id_bytes →
      Spells (entry_of x.0) (id_bytes ++ front)

Picked-is : {P : Type 0} (entry_of : P → Entry P) (id : ℤ) (bytes : List ℕ) (x y : P × List ℕ)
    → x ≡ y → Picked entry_of id bytes x → Picked entry_of id bytes y
Picked-is {P} entry_of id bytes x y e h =
    let Q : P × List ℕ → Type 0 = λ z. Picked entry_of id bytes z in subst Q e h

is_id-true : (id : ℤ) (n : ℕ) → is_id id n ≡ true → id ≡ pos n
is_id-true (pos m) n e = ap pos (eqb-true m n e)
is_id-true (negsuc m) n e = absurd cc

pub is_one_of-true : (is_member : ℕ → Bool) (id : ℤ) → is_one_of is_member id ≡ true
    → id ≡ pos (size_of id)
is_one_of-true is_member (pos n) e = refl
is_one_of-true is_member (negsuc n) e = absurd cc

lifted_ok : {A : Type 0} (r : Field A) (x : A × List ℕ) → lifted r ≡ Ok x → r ≡ Ok x
lifted_ok (Ok y) x e = cc
lifted_ok (Err stop) x e = absurd cc

row_picked : {P : Type 0} (entry_of : P → Entry P) (r : Row P) → IsRowOf entry_of r
    → (bytes : List ℕ) (x : P × List ℕ) → IsBytes bytes → fields_read r bytes ≡ Ok x
    → Picked entry_of (pos r.id) bytes x
row_picked {P} entry_of r tied bytes x fits e =
    let p = bind_ok (r.format.read bytes) (λ (y : r.Fields × List ℕ). Ok (r.make y.0, y.1)) x e in
    let f = r.format.found bytes p.0 fits p.1 in
    Picked-is entry_of (pos r.id) bytes (r.make p.0.0, p.0.1) x (ok_is Stop _ _ p.2) (record {
      front = f.front;
      parts = f.parts;
      spelled = λ id_bytes s. tied p.0.0 (id_bytes ++ f.front) (record {
        id_bytes = id_bytes;
        field_bytes = f.front;
        parts = refl;
        id_spelled = s;
        fields_spelled = f.spelled;
      });
    })

id_picked : {P : Type 0} {entry_of : P
    → Entry P} (rows : Rows P entry_of) (id : ℤ) (bytes : List ℕ) (x : P × List ℕ) → IsBytes bytes
    → id_read rows id bytes ≡ Ok x → Picked entry_of id bytes x
id_picked no_more id bytes x fits e = absurd cc
id_picked {P} {entry_of} (row r tied rows) id bytes x fits e =
    step (is_id id r.id) refl e (λ h. id_picked rows id bytes x fits h)
  where
    step : (t : Bool) → is_id id r.id ≡ t →
        cond t (lifted (fields_read r bytes)) (id_read rows id bytes) ≡ Ok x →
        (id_read rows id bytes ≡ Ok x → Picked entry_of id bytes x) → Picked entry_of id bytes x
    step true t e rest =
        let Q : ℤ → Type 0 = λ z. Picked entry_of z bytes x in
        subst Q (sym (is_id-true id r.id t)) (row_picked entry_of r tied bytes x fits
        (lifted_ok (fields_read r bytes) x e))
    step false t e rest = rest e
id_picked {P} {entry_of} (family is_member r ids tied rows) id bytes x fits e =
    step (is_one_of is_member id) refl e (λ h. id_picked rows id bytes x fits h)
  where
    step : (t : Bool) → is_one_of is_member id ≡ t →
        cond t (lifted (fields_read (r (size_of id)) bytes)) (id_read rows id bytes) ≡ Ok x →
        (id_read rows id bytes ≡ Ok x → Picked entry_of id bytes x) → Picked entry_of id bytes x
    step true t e rest =
        let Q : ℤ → Type 0 = λ z. Picked entry_of z bytes x in
        let same : id ≡ pos (r (size_of id)).id = is_one_of-true is_member id t ∙
        ap pos (sym (ids (size_of id))) in
        subst Q (sym same) (row_picked entry_of (r (size_of id)) (tied (size_of id)) bytes x fits
        (lifted_ok (fields_read (r (size_of id)) bytes) x e))
    step false t e rest = rest e

whole_ok : {P : Type 0} (p q : P) (bytes : List ℕ) → whole p bytes ≡ Ok q → (bytes ≡ []) × (p ≡ q)
whole_ok p q [] e = (refl, ok_is RowFault _ _ e)
whole_ok p q (b ∷ bytes) e = absurd cc

-- an equal packet is spelled by equal bytes
Spells-is : {P : Type 0} (entry_of : P → Entry P) (p q : P) (bytes frame : List ℕ) → p ≡ q
    → frame ≡ bytes → Spells (entry_of p) bytes → Spells (entry_of q) frame
Spells-is {P} entry_of p q bytes frame same parts s =
    let Q : P → Type 0 = λ x. Spells (entry_of x) frame in
    let R : List ℕ → Type 0 = λ t. Spells (entry_of p) t in
    subst Q same (subst R (sym parts) s)

ended : (bytes front middle back rest : List ℕ) → bytes ≡ front ++ middle → middle ≡ back ++ rest
    → rest ≡ [] → bytes ≡ front ++ back
ended bytes front middle back rest first second nothing =
    first ∙ ap (λ (t : List ℕ). front ++ t) (second ∙ ap (λ (t : List ℕ). back ++ t) nothing ∙
    append-nil back)

pub frame_found : {P : Type 0} {entry_of : P
    → Entry P} (rows : Rows P entry_of) (frame : List ℕ) (p : P) → IsBytes frame
    → packet_read rows frame ≡ Ok p → Spells (entry_of p) frame
unfolding packet_read
frame_found {P} {entry_of} rows frame p fits e =
    let a = bind_ok (lifted (varint_read 5 frame)) (λ (id : ℤ × List ℕ). id_read rows id.0 id.1 >>=
    λ (x : P × List ℕ). whole x.0 x.1) p e in
    let b = bind_ok (id_read rows a.0.0 a.0.1) (λ (x : P × List ℕ). whole x.0 x.1) p a.2 in
    let i = varint_found 5 frame a.0 fits (lifted_ok (varint_read 5 frame) a.0 a.1) in
    let f = id_picked rows a.0.0 a.0.1 b.0 i.rest_fits b.1 in
    let end = whole_ok b.0.0 p b.0.1 b.2 in
    let parts : frame ≡ i.front ++ f.front = ended frame i.front a.0.1 f.front b.0.1 i.parts f.parts
    end.0 in
    Spells-is entry_of b.0.0 p (i.front ++ f.front) frame end.1 parts (f.spelled i.front i.spelled)

-- ---- what is spelled so is read

-- each row's packets are, by this, where the row is found under its id
pub row_tied : {P : Type 0} (r : Row P) (fields : r.Fields) (bytes : List ℕ)
    → r.format.read bytes ≡ Ok (fields, []) → lifted (fields_read r bytes) ≡ Ok (r.make fields, [])
row_tied r fields bytes h = rw h refl

-- each packet of a family is, where the family has its id
pub family_tied : {P : Type 0} {entry_of : P → Entry P} (is_member : ℕ → Bool) (r : ℕ
    → Row P) (ids : (id : ℕ) → (r id).id ≡ id) (tied : (id : ℕ)
    → IsRowOf entry_of (r id)) (rows : Rows P entry_of) (id : ℕ) (fields : (r id).Fields)
    (bytes : List ℕ)
    → is_member id ≡ true → (r id).format.read bytes ≡ Ok (fields, [])
    → id_read (family is_member r ids tied rows) (pos id) bytes ≡ Ok ((r id).make fields, [])
family_tied is_member r ids tied rows id fields bytes member h = rw (member, h) refl

pub frame_only : {P : Type 0} {entry_of : P
    → Entry P} (rows : Rows P entry_of) (p : P) (frame : List ℕ) → IsTied rows p
    → Spells (entry_of p) frame → packet_read rows frame ≡ Ok p
unfolding packet_read
frame_only {P} {entry_of} rows p frame tied s =
    let id = varint_only 5 Anything (pos (entry_of p).row.id) s.id_bytes s.field_bytes tt
    s.id_spelled in
    let fields = (entry_of p).row.format.only (entry_of p).fields s.field_bytes [] refl
    s.fields_spelled in
    let fields' = rw append-nil at fields in
    rw (s.parts, id, tied s.field_bytes fields') refl

-- what is written of a packet is read as that packet
pub spelled_again : {P : Type 0} {entry_of : P → Entry P} (rows : Rows P entry_of) (p : P)
    → IsTied rows p → Fits (entry_of p) → packet_read rows (spelling (entry_of p)) ≡ Ok p
spelled_again {P} {entry_of} rows p tied fits =
    frame_only rows p (spelling (entry_of p)) tied (fits_spelled (entry_of p) fits)

-- a frame spells one packet at most
pub spelled_one : {P : Type 0} {entry_of : P
    → Entry P} (rows : Rows P entry_of) (p q : P) (frame : List ℕ) → IsTied rows p → IsTied rows q
    → Spells (entry_of p) frame → Spells (entry_of q) frame → p ≡ q
spelled_one rows p q frame tied others s t =
    ok_is RowFault p q (sym (frame_only rows p frame tied s) ∙ frame_only rows q frame others t)

-- ---- what functions answer

packet_ok : {P : Type 0} (frame : List ℕ) (read : Result P RowFault) (p : P)
    → packet_of frame read ≡ Ok p → read ≡ Ok p
packet_ok frame (Ok q) p e = cc
packet_ok frame (Err fault) p e = absurd cc

-- a reader of packets that takes no memory answers what the frame spells
pub packet_found_all : {P : Type 0} {entry_of : P → Entry P} (rows : Rows P entry_of) (Spelled : P
    → List ℕ → Type 0) → ((p : P) (bytes : List ℕ) → Spells (entry_of p) bytes → Spelled p bytes)
    → (frame : List ℕ) (result : Result P PacketFault) → IsBytes frame
    → result ≡ packet_of frame (packet_read rows frame) → IfOk result (λ p. Spelled p frame)
packet_found_all rows Spelled seen frame (Ok p) fits e =
    seen p frame
    (frame_found rows frame p fits (packet_ok frame (packet_read rows frame) p (sym e)))
packet_found_all rows Spelled seen frame (Err error) fits e = tt

pub packet_only_all : {P : Type 0} {entry_of : P
    → Entry P} (rows : Rows P entry_of) (p : P) (frame : List ℕ) (result : Result P PacketFault)
    → IsTied rows p → Spells (entry_of p) frame → result ≡ packet_of frame (packet_read rows frame)
    → result ≡ Ok p
packet_only_all rows p frame result tied s e =
    e ∙ ap (packet_of frame) (frame_only rows p frame tied s)

-- what a reader of packets read is spelled so, and what is spelled so is what it read, unless
-- memory ran out; Spelled is the relation of one enum, which is that of its rows
pub packet_found : {P : Type 0} {entry_of : P → Entry P} (rows : Rows P entry_of) (Spelled : P
    → List ℕ → Type 0) → ((p : P) (bytes : List ℕ) → Spells (entry_of p) bytes → Spelled p bytes)
    → (frame : List ℕ) (result : Result P PacketRead) → IsBytes frame
    → GivesPacket result (packet_of frame (packet_read rows frame))
    → IfOk result (λ p. Spelled p frame)
packet_found {P} {entry_of} rows Spelled seen frame (Ok p) fits e =
    seen p frame (frame_found rows frame p fits (packet_ok frame (packet_read rows frame) p e))
packet_found rows Spelled seen frame (Err error) fits e = tt

pub packet_only : {P : Type 0} {entry_of : P
    → Entry P} (rows : Rows P entry_of) (p : P) (frame : List ℕ) (result : Result P PacketRead)
    → IsTied rows p → Spells (entry_of p) frame
    → GivesPacket result (packet_of frame (packet_read rows frame)) → GivesPacket result (Ok p)
packet_only {P} rows p frame result tied s e =
    let Q : Result P PacketFault → Type 0 = λ r. GivesPacket result r in
    subst Q (ap (packet_of frame) (frame_only rows p frame tied s)) e
