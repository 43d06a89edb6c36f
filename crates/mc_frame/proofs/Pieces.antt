-- The bytes of an outbox, with more behind them or fewer before.
use Rattle.std.proofs.Common.{◌≡◌, ℕ, ◌+◌, ◌-◌, ◌*◌, ◌<◌, ◌≤◌, List, [], ◌∷◌, ◌++◌, length, drop}
use Rattle.std.proofs.Common.{refl, sym, ap, ◌∙◌, append_assoc, arith}
use Rattle.std.proofs.lemmas.List.{length-append, length-drop, append-nil, drop-append-le}
use Rattle.mc_frame.specs.Kept.{kept_bytes, outbox_max, shared_min, IsInFirst, ArePieces}
use Rattle.mc_frame.specs.Kept.{IsKeptOutbox}

-- small bytes behind the others
pub kept-small : (pieces : List (List ℕ)) (small more : List ℕ) →
    kept_bytes pieces (small ++ more) ≡ kept_bytes pieces small ++ more
kept-small [] small more = refl
kept-small (first ∷ pieces) small more =
    ap (λ (t : List ℕ). first ++ t) (kept-small pieces small more)
    ∙ sym (append_assoc first (kept_bytes pieces small) more)

-- a piece behind the others
kept-piece : (pieces : List (List ℕ)) (piece small : List ℕ) →
    kept_bytes (pieces ++ piece ∷ []) small ≡ kept_bytes pieces (piece ++ small)
kept-piece [] piece small = refl
kept-piece (first ∷ pieces) piece small =
    ap (λ (t : List ℕ). first ++ t) (kept-piece pieces piece small)

ArePieces-push : (pieces : List (List ℕ)) (piece : List ℕ) → ArePieces pieces → 0 < length piece →
    length piece ≤ outbox_max → ArePieces (pieces ++ piece ∷ [])
ArePieces-push [] piece fit some few = (some, few, tt)
ArePieces-push (first ∷ pieces) piece fit some few =
    (fit.0, fit.1, ArePieces-push pieces piece fit.2 some few)

no_bytes : (small : List ℕ) → length small < 1 → small ≡ []
no_bytes [] none = refl
no_bytes (b ∷ small) none = absurd (omega (arith, none))

-- ---- the joined bytes become a piece

pub sealed-bytes : (pieces new : List (List ℕ)) (small none : List ℕ) → new ≡ pieces ++ small ∷ [] →
    none ≡ [] → kept_bytes new none ≡ kept_bytes pieces small
sealed-bytes pieces new small none is empty = rw (is, empty)
    (kept-piece pieces small [] ∙ ap (kept_bytes pieces) (append-nil small))

IsInFirst-seal : (pieces : List (List ℕ)) (small : List ℕ) (at : ℕ) → IsInFirst at pieces small →
    0 < length small → IsInFirst at (pieces ++ small ∷ []) []
IsInFirst-seal [] small at here some = omega (arith, here, some)
IsInFirst-seal (first ∷ pieces) small at here some = here

pub kept_seal : (pieces new : List (List ℕ)) (small none : List ℕ) → new ≡ pieces ++ small ∷ [] →
    none ≡ [] → 0 < length small → (at len : ℕ) → IsKeptOutbox pieces small at len →
    IsKeptOutbox new none at len
kept_seal pieces new small none is empty some at len kept =
    let all = ap length (sealed-bytes pieces new small none is empty) in
    let was = kept.counted in
    record {
      in_first = rw (is, empty) (IsInFirst-seal pieces small at kept.in_first some);
      pieces_fit = rw is (ArePieces-push pieces small kept.pieces_fit some
          (omega (arith, kept.small_fit)));
      small_fit = rw empty (omega arith);
      counted = omega (arith, all, was);
      few = kept.few;
      near = kept.near;
    }

-- ---- more behind

IsInFirst-more : (pieces : List (List ℕ)) (small more : List ℕ) (at : ℕ) →
    IsInFirst at pieces small → IsInFirst at pieces (small ++ more)
IsInFirst-more [] small more at here = omega (arith, here, length-append small more)
IsInFirst-more (first ∷ pieces) small more at here = here

-- small bytes more
pub kept_join : (pieces : List (List ℕ)) (small more new : List ℕ) (at len : ℕ) →
    new ≡ small ++ more → length small < shared_min → length more < shared_min →
    len + length more ≤ outbox_max → IsKeptOutbox pieces small at len →
    IsKeptOutbox pieces new at (len + length more)
kept_join pieces small more new at len is short little room kept =
    let all = ap length (kept-small pieces small more) in
    let sum = length-append (kept_bytes pieces small) more in
    let was = kept.counted in
    rw is (record {
      in_first = IsInFirst-more pieces small more at kept.in_first;
      pieces_fit = kept.pieces_fit;
      small_fit = omega (arith, short, little, length-append small more);
      counted = omega (arith, all, sum, was);
      few = room;
      near = kept.near;
    })

-- a piece more
pub shared-bytes : (pieces new : List (List ℕ)) (small piece : List ℕ) →
    new ≡ pieces ++ piece ∷ [] → length small < 1 →
    kept_bytes new small ≡ kept_bytes pieces small ++ piece
shared-bytes pieces new small piece is none = rw (is, no_bytes small none)
    (kept-piece pieces piece [] ∙ ap (kept_bytes pieces) (append-nil piece)
    ∙ kept-small pieces [] piece)

IsInFirst-share : (pieces : List (List ℕ)) (piece : List ℕ) (at : ℕ) → IsInFirst at pieces [] →
    0 < length piece → IsInFirst at (pieces ++ piece ∷ []) []
IsInFirst-share [] piece at here some = omega (arith, here, some)
IsInFirst-share (first ∷ pieces) piece at here some = here

pub kept_share : (pieces new : List (List ℕ)) (small piece : List ℕ) (at len : ℕ) →
    new ≡ pieces ++ piece ∷ [] → length small < 1 → shared_min ≤ length piece →
    len + length piece ≤ outbox_max → IsKeptOutbox pieces small at len →
    IsKeptOutbox new small at (len + length piece)
kept_share pieces new small piece at len is none large room kept =
    let empty = no_bytes small none in
    let some : 0 < length piece = omega (arith, large) in
    let all = ap length (shared-bytes pieces new small piece is none) in
    let sum = length-append (kept_bytes pieces small) piece in
    let was = kept.counted in
    record {
      in_first = rw (is, empty) (IsInFirst-share pieces piece at (rw empty at kept.in_first) some);
      pieces_fit = rw is (ArePieces-push pieces piece kept.pieces_fit some (omega (arith, room)));
      small_fit = kept.small_fit;
      counted = omega (arith, all, sum, was);
      few = room;
      near = kept.near;
    }

-- ---- what is held

-- more behind all bytes is more behind those that are shown
pub shown_more : (all new more held : List ℕ) (at len : ℕ) → length all ≡ at + len →
    new ≡ all ++ more → drop at all ≡ held → drop at new ≡ held ++ more
shown_more all new more held at len counted is shown = ap (drop at) is
    ∙ drop-append-le at all more (omega (arith, counted)) ∙ ap (λ (t : List ℕ). t ++ more) shown

-- what is shown has so many bytes
pub shown_len : (pieces : List (List ℕ)) (small : List ℕ) (at len : ℕ) →
    IsKeptOutbox pieces small at len → length (drop at (kept_bytes pieces small)) ≡ len
shown_len pieces small at len kept = let all = kept.counted in
    omega (arith, all, length-drop at (kept_bytes pieces small))

-- a place in the first piece is near
near_first : (pieces : List (List ℕ)) (small : List ℕ) (at : ℕ) → IsInFirst at pieces small →
    ArePieces pieces → length small < 2 * shared_min → at ≤ outbox_max
near_first [] small at here fit short = omega (arith, here, short)
near_first (first ∷ pieces) small at here fit short = omega (arith, here, fit.1)

-- a place before the end of all bytes is one in the joined ones, where there are no others
pub in_joined : (pieces : List (List ℕ)) (place at : ℕ) (small all : List ℕ) →
    length pieces ≡ 0 → drop at (kept_bytes pieces small) ≡ drop place all → place < length all →
    IsInFirst at pieces small
in_joined [] place at small all none same within =
    let lengths = ap length same in
    omega (arith, lengths, within, length-drop at small, length-drop place all)
in_joined (first ∷ pieces) place at small all none same within = absurd (omega (arith, none))

-- some first bytes are let go of, and not all
pub kept_took : (old new : List (List ℕ)) (small : List ℕ) (at at' len n : ℕ) → n < len →
    IsKeptOutbox old small at len →
    drop at' (kept_bytes new small) ≡ drop (at + n) (kept_bytes old small) →
    IsInFirst at' new small → ArePieces new → IsKeptOutbox new small at' (len - n)
kept_took old new small at at' len n less kept rest here fit =
    let all = kept.counted in
    let same = ap length rest in
    record {
      in_first = here;
      pieces_fit = fit;
      small_fit = kept.small_fit;
      counted = omega (
        arith,
        less,
        all,
        same,
        length-drop at' (kept_bytes new small),
        length-drop (at + n) (kept_bytes old small),
      );
      few = omega (arith, kept.few);
      near = near_first new small at' here fit kept.small_fit;
    }
