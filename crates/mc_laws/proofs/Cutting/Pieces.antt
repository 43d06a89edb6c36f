-- All that a connection is owed is taken after each piece: it comes to what the bytes come to at
-- once, where they do not close it since it is owed too much.
use Rattle.std.proofs.Common.{◌≡◌, ℕ, Bool, true, false, List, [], ◌∷◌, ◌++◌, refl, sym}
use Rattle.std.proofs.Common.{subst, ap, ◌∙◌, arith}
use Rattle.std.specs.List.{AllByRecursion}
use Rattle.std.specs.Prelude.{None}
use Rattle.std.proofs.lemmas.List.{append-nil, length-append}
use Rattle.mc_bytes.specs.Reading.{IsBytes}
use Rattle.mc_frame.specs.Cut.{Cut}
use Rattle.mc_frame.specs.Kept.{joined}
use Rattle.mc_model.specs.Cutting.{cut_of}
use Rattle.mc_model.specs.Packets.{Sent}
use Rattle.mc_model.specs.Stages.{is_closed}
use Rattle.mc_model.specs.Step.{on_bytes, still}
use Rattle.mc_model.specs.Link.{Link}
use Rattle.mc_model.specs.World.{Seat, Turn}
use Rattle.mc_model.proofs.FitsBytes.{bytes_joined}
use Rattle.mc_laws.specs.Pieces.{IsFull, SameTurn, Waits, emptied, in_pieces, taken}
use Rattle.mc_laws.proofs.Apart.Befores.{bytes_part, cut_again}
use Rattle.mc_laws.proofs.Apart.BadFrames.{elsewhere}
use Rattle.mc_laws.proofs.Cutting.Cuts.{count_after}
use Rattle.mc_laws.proofs.Cutting.Reads.{bytes_closed, bytes_in_two, bytes_open, done}
use Rattle.mc_laws.proofs.Cutting.Room.{bytes_less}

-- bytes leave what they leave, also once all was taken
pub waits_on : (k : ℕ) (s : Seat) (bytes : List ℕ) → Waits s → IsBytes bytes →
    Waits (emptied (on_bytes k s bytes).seat)
waits_on k s bytes waits come = let left = bytes_part k s bytes waits.are come in
    record { are = left.are; part = left.part }

-- no bytes come to nothing
none_come : (k : ℕ) (s : Seat) → s.link.owed ≡ [] → Waits s →
    SameTurn (taken (on_bytes k s [])) (still s)
none_come k s owed waits = step (is_closed s.link.stage) refl
  where
    none : emptied s ≡ s
    none = λ i. record s { link = record s.link { owed = sym owed i } }

    same : SameTurn (still (emptied s)) (still s)
    same = record {
      handed = refl;
      seat = record {
        game = refl;
        link = ap (λ (v : Seat). v.link) none;
        unread = λ open_. refl;
      };
    }

    step : (b : Bool) → is_closed s.link.stage ≡ b → SameTurn (taken (on_bytes k s [])) (still s)
    step true t = subst (λ (v : Turn). SameTurn (taken v) (still s))
        (sym (bytes_closed k s [] t)) same
    step false t =
        let n = s.unread.before in
        let rest = s.unread.rest in
        let cut : cut_of n (rest ++ []) ≡ record { frames = []; rest = rest; fault = None } =
        ap (cut_of n) (append-nil rest)
        ∙ cut_again n rest (record { frames = []; rest = rest; fault = None }) waits.are
        (record { front = []; parts = refl; framed = refl; ends = waits.part t }) in
        let left : count_after n (rest ++ []) (record { frames = []; rest = rest; fault = None })
        ≡ n = omega (arith, length-append rest []) in
        let read_as : Cut → Turn = λ c. elsewhere
        (record { rest = c.rest; before = count_after n (rest ++ []) c })
        (done k s c.frames c.fault) in
        subst (λ (v : Turn). SameTurn (taken v) (still s))
        (sym (bytes_open k s [] t ∙ ap read_as cut)) (record {
          handed = refl;
          seat = record {
            game = refl;
            link = ap (λ (v : Seat). v.link) none;
            unread = λ open_. λ i. record { rest = rest; before = left i };
          };
        })

pub pieces_same : (k : ℕ) (pieces : List (List ℕ)) (s : Seat) → s.link.owed ≡ [] → Waits s →
    AllByRecursion IsBytes pieces → ¬ IsFull (on_bytes k s (joined pieces)).seat.link →
    SameTurn (taken (on_bytes k s (joined pieces))) (in_pieces k s pieces)
pieces_same k [] s owed waits are room = none_come k s owed waits
pieces_same k (piece ∷ pieces) s owed waits are room =
    let later : List ℕ = joined pieces in
    let first = on_bytes k s piece in
    let second = on_bytes k first.seat later in
    let both = bytes_in_two k s piece later waits.are are.0 (joined_bytes pieces are.1) in
    let not_full = subst (λ (l : Link). ¬ IsFull l) both.seat.link room in
    let less = bytes_less k first.seat later [] (omega arith) not_full in
    let rest = pieces_same k pieces (emptied first.seat) refl (waits_on k s piece waits are.0)
    are.1 (subst (λ (v : Turn). ¬ IsFull v.seat.link) (sym less.is)
    (λ full. not_full (record { closed = full.closed; cause = full.cause }))) in
    let as_taken : taken (on_bytes k (emptied first.seat) later) ≡ taken second =
    ap taken less.is in
    let tail = subst (λ (v : Turn). SameTurn v (in_pieces k (emptied first.seat) pieces))
    as_taken rest in
    record {
      handed = both.handed ∙ ap (λ (ps : List Sent). first.handed ++ ps) tail.handed;
      seat = record {
        game = both.seat.game ∙ tail.seat.game;
        link = ap (λ (l : Link). record l { owed = [] }) both.seat.link ∙ tail.seat.link;
        unread = λ open_. both.seat.unread open_ ∙ tail.seat.unread
            (subst (λ (l : Link). is_closed l.stage ≡ false) both.seat.link open_);
      };
    }
  where
    joined_bytes : (pieces : List (List ℕ)) → AllByRecursion IsBytes pieces →
        IsBytes (joined pieces)
    joined_bytes [] are = λ i. omega arith
    joined_bytes (piece ∷ pieces) are =
        bytes_joined piece (joined pieces) are.0 (joined_bytes pieces are.1)
