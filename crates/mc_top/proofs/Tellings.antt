-- Taking and telling piece by piece, and connection by connection.
use Rattle.std.proofs.Common.{◌≡◌, ℕ, ◌+◌, ◌<◌, ◌≤◌, Bool, true, false, List, [], ◌∷◌, ◌++◌}
use Rattle.std.proofs.Common.{length, get_or, take, drop, refl, sym, subst, ap, ◌∙◌, append_assoc}
use Rattle.std.proofs.Common.{arith}
use Rattle.std.specs.Prelude.{◌↔◌, Option, codes, decimal}
use Rattle.std.proofs.lemmas.List.{append-nil, take-take}
use Rattle.std.proofs.Math.Seq.{drop-cons}
use Rattle.std.proofs.lemmas.Bool.Decides.{nat_tests}
use Rattle.hex.specs.Hex.{encode_lower}
use Rattle.mc_wire.specs.Stream.{Grows}
use Rattle.mc_model.specs.Step.{took, step}
use Rattle.mc_model.specs.Run.{owed_in}
use Rattle.mc_model.specs.World.{World}
use Rattle.mc_events.specs.Asking.{pending_in}
use Rattle.mc_events.specs.Served.{ServerValue}
use Rattle.mc_events.specs.Stands.{Stands}
use Rattle.mc_text.specs.Passes.{Passes, Breaks}
use Rattle.mc_text.proofs.Passing.{passes_none, passes_next, passes_two, passes_all, breaks_next}
use Rattle.mc_text.proofs.Passing.{breaks_early, breaks_two}
use Rattle.mc_measure.specs.Settling.{settled}
use Rattle.mc_top.specs.ReplayText.{lines_after}
use Rattle.mc_measure.specs.Settling.{taken, taken_of, all_taken}
use Rattle.mc_top.specs.Replaying.{sent_by, sent_in, all_sent}
use Rattle.mc_measure.specs.Settling.{all_forgotten, each}
use Rattle.mc_top.specs.Replaying.{all_shut, TakesFront, each_line}
use Rattle.mc_measure.proofs.Taken.{owed_after, taken_after}
use Rattle.mc_measure.proofs.Takings.{all_settled}
use Rattle.mc_top.proofs.Taking.{all_told, encode_none, encode_parts}

-- ---- one connection, piece by piece

-- the first n bytes of the front are the first n that are owed
front_first : (n : ℕ) (front owed : List ℕ) → n ≤ length front → take (length front) owed ≡ front →
    take n front ≡ take n owed
front_first n front owed few first = ap (take n) (sym first) ∙ take-take n (length front) owed few

-- they were not all written
pub front_breaks : (w : World) (k n : ℕ) (held held' : Option (List ℕ)) (front old : List ℕ) →
    n ≤ length front → take (length front) (owed_in k w) ≡ front →
    Breaks held held' old (encode_lower (take n front)) →
    Breaks held held' old (encode_lower (owed_in k w))
front_breaks w k n held held' front old few first breaks =
    let P : List ℕ → Type 0 = λ t. Breaks held held' old (encode_lower t) in
    let Q : List ℕ → Type 0 = λ t. Breaks held held' old t in
    subst Q (encode_parts n (owed_in k w))
    (breaks_early held held' old (encode_lower (take n (owed_in k w))) (encode_lower
    (drop n (owed_in k w))) (subst P (front_first n front (owed_in k w) few first) breaks))

no_bytes : (bytes : List ℕ) → length bytes ≡ 0 → bytes ≡ []
no_bytes [] none = refl
no_bytes (b ∷ bytes) none = absurd (omega (arith, none))

-- some first bytes were taken, and what is left and the others are all
pub record IsTaking (k : ℕ) (w : World) (server : ServerValue) (held held' : Option (List ℕ))
    (old new : List ℕ) : Type 0 where
  pub v : World
  pub stands : Stands server v
  pub same : taken k v ≡ taken k w
  pub lines : Passes held held' old (encode_lower (owed_in k w)) new (encode_lower (owed_in k v))

pub taking_start : (k : ℕ) (w : World) (server : ServerValue) (held : Option (List ℕ))
    (lines : List ℕ) → Stands server w → IsTaking k w server held held lines lines
taking_start k w server held lines stands = record {
  v = w;
  stands = stands;
  same = refl;
  lines = passes_none held lines (encode_lower (owed_in k w));
}

pub taking_next : (k : ℕ) (w : World) (middle server : ServerValue)
    (held mid held' : Option (List ℕ)) (old half new : List ℕ) (more : Bool) →
    more ≡ true → IsTaking k w middle held mid old half →
    ((v : World) → Stands middle v → TakesFront k v server mid held' half new more) →
    IsTaking k w server held held' old new
taking_next k w middle server held mid held' old half new more is t takes =
    let P : Bool → Type 0 = λ b. TakesFront k t.v server mid held' half new b in
    let f = subst P is (takes t.v t.stands) in
    let o : List ℕ = owed_in k t.v in
    let all : List ℕ = encode_lower (owed_in k w) in
    let Q : List ℕ → Type 0 = λ left. Passes held mid old all half left in
    let R : List ℕ → Type 0 = λ b. Passes held held' old all new (encode_lower b) in
    record {
      v = (step t.v (took k f.0)).world;
      stands = f.3;
      same = taken_after t.v k f.0 f.1 f.2 ∙ t.same;
      lines = subst R (sym (owed_after t.v k f.0))
          (passes_next held mid held' old all half (encode_lower (take f.0 o)) new
          (encode_lower (drop f.0 o)) (subst Q (sym (encode_parts f.0 o)) t.lines) f.4);
    }

pub taking_done : (k : ℕ) (w : World) (middle server : ServerValue)
    (held mid held' : Option (List ℕ)) (old half new : List ℕ) (more : Bool) →
    more ≡ false → IsTaking k w middle held mid old half →
    ((v : World) → Stands middle v → TakesFront k v server mid held' half new more) →
    Stands server (taken k w) × Passes held held' old (encode_lower (owed_in k w)) new []
taking_done k w middle server held mid held' old half new more is t takes =
    let Q : Bool → Type 0 = λ b. TakesFront k t.v server mid held' half new b in
    let f = subst Q is (takes t.v t.stands) in
    let R : List ℕ → Type 0 = λ l. Passes held mid old (encode_lower (owed_in k w)) half l in (
      subst (Stands server) (sym (ap (taken_of k t.v) f.0) ∙ t.same) f.1,
      passes_next held mid held' old (encode_lower (owed_in k w)) half [] new []
          (subst R (encode_none (owed_in k t.v) f.0) t.lines) f.2,
    )

pub taking_breaks : (k : ℕ) (w : World) (middle : ServerValue)
    (held mid held' : Option (List ℕ)) (old half : List ℕ) → IsTaking k w middle held mid old half →
    ((v : World) → Stands middle v → Breaks mid held' half (encode_lower (owed_in k v))) →
    Breaks held held' old (encode_lower (owed_in k w))
taking_breaks k w middle held mid held' old half t breaks =
    let o : List ℕ = encode_lower (owed_in k t.v) in
    let R : List ℕ → Type 0 = λ left. Passes held mid old (encode_lower (owed_in k w)) half left in
    breaks_next held mid held' old (encode_lower (owed_in k w)) half o []
    (subst R (sym (append-nil o)) t.lines) (breaks t.v t.stands)

-- ---- the line of one connection

some_bytes : (bytes : List ℕ) → 0 < length bytes → bytes ≡ [] → ⊥
some_bytes bytes some none =
    let zero_ : length bytes ≡ 0 = ap length none in
    omega (arith, some, zero_)

sent_some : (k : ℕ) (o : List ℕ) → (o ≡ [] → ⊥) →
    sent_by k o ≡ codes "sent " ++ decimal k ++ codes " " ++ encode_lower o ++ 10 ∷ []
sent_some k [] some = absurd (some refl)
sent_some k (b ∷ bytes) some = refl

-- what stands before the hex of a line
abbrev pub sent_head : ℕ → List ℕ
sent_head k = codes "sent " ++ decimal k ++ codes " "

-- the line of one that is owed bytes, in its parts
pub sent_parts : (k : ℕ) (w : World) (front : List ℕ) →
    0 < length front → (front ≡ []) ↔ (owed_in k w ≡ []) →
    sent_in k w ≡ sent_head k ++ (encode_lower (owed_in k w) ++ 10 ∷ [])
sent_parts k w front some same =
    sent_some k (owed_in k w) (λ none. some_bytes front some (same.1 none))
    ∙ append_assoc (sent_head k) (encode_lower (owed_in k w)) (10 ∷ [])

-- the front, the hex and the end make the line
pub sent_is : (k : ℕ) (w : World)
    (front old first half new head : List ℕ) (h0 h1 h2 h3 : Option (List ℕ)) → 0 < length front →
    (front ≡ []) ↔ (owed_in k w ≡ []) → head ≡ sent_head k → Passes h0 h1 old head first [] →
    Passes h1 h2 first (encode_lower (owed_in k w)) half [] → Passes h2 h3 half (10 ∷ []) new [] →
    Passes h0 h3 old (sent_in k w) new []
sent_is k w front old first half new head h0 h1 h2 h3 some same is a b c =
    let P : List ℕ → Type 0 = λ t. Passes h0 h1 old t first [] in
    let Q : List ℕ → Type 0 = λ t. Passes h0 h3 old t new [] in
    let hex : List ℕ = encode_lower (owed_in k w) in
    subst Q (sym (sent_parts k w front some same))
    (passes_two h0 h1 h3 old (sent_head k) first (hex ++ 10 ∷ []) new (subst P is a)
    (passes_two h1 h2 h3 first hex half (10 ∷ []) new b c))

-- it broke in the front
pub sent_breaks_head : (k : ℕ) (w : World) (front old head : List ℕ)
    (held held' : Option (List ℕ)) → 0 < length front → (front ≡ []) ↔ (owed_in k w ≡ []) →
    head ≡ sent_head k → Breaks held held' old head → Breaks held held' old (sent_in k w)
sent_breaks_head k w front old head held held' some same is b =
    let P : List ℕ → Type 0 = λ t. Breaks held held' old t in
    subst P (sym (sent_parts k w front some same)) (breaks_early held held' old (sent_head k)
    (encode_lower (owed_in k w) ++ 10 ∷ []) (subst P is b))

-- in the hex
pub sent_breaks_hex : (k : ℕ) (w : World)
    (front old head first : List ℕ) (h0 h1 h2 : Option (List ℕ)) → 0 < length front →
    (front ≡ []) ↔ (owed_in k w ≡ []) → head ≡ sent_head k → Passes h0 h1 old head first [] →
    Breaks h1 h2 first (encode_lower (owed_in k w)) → Breaks h0 h2 old (sent_in k w)
sent_breaks_hex k w front old head first h0 h1 h2 some same is a b =
    let P : List ℕ → Type 0 = λ t. Passes h0 h1 old t first [] in
    let Q : List ℕ → Type 0 = λ t. Breaks h0 h2 old t in
    subst Q (sym (sent_parts k w front some same)) (breaks_two h0 h1 h2 old (sent_head k) first
    (encode_lower (owed_in k w)) (10 ∷ []) (subst P is a) b)

-- in the end
pub sent_breaks_end : (k : ℕ) (w : World)
    (front old head first half : List ℕ) (h0 h1 h2 h3 : Option (List ℕ)) → 0 < length front →
    (front ≡ []) ↔ (owed_in k w ≡ []) → head ≡ sent_head k → Passes h0 h1 old head first [] →
    Passes h1 h2 first (encode_lower (owed_in k w)) half [] → Breaks h2 h3 half (10 ∷ []) →
    Breaks h0 h3 old (sent_in k w)
sent_breaks_end k w front old head first half h0 h1 h2 h3 some same is a b c =
    let P : List ℕ → Type 0 = λ t. Passes h0 h1 old t first [] in
    let Q : List ℕ → Type 0 = λ t. Breaks h0 h3 old t in
    let hex : List ℕ = encode_lower (owed_in k w) in
    subst Q (append_assoc (sent_head k) hex (10 ∷ []) ∙ sym (sent_parts k w front some same))
    (breaks_two h0 h2 h3 old (sent_head k ++ hex) half (10 ∷ []) []
    (passes_two h0 h1 h2 old (sent_head k) first hex half (subst P is a) b) c)

-- nothing is owed
pub not_sent : (k : ℕ) (w : World) (server : ServerValue) (front old : List ℕ)
    (held : Option (List ℕ)) → length front ≡ 0 → (front ≡ []) ↔ (owed_in k w ≡ []) →
    Stands server w → Stands server (taken k w) × Passes held held old (sent_in k w) old []
not_sent k w server front old held none same stands =
    let Q : List ℕ → Type 0 = λ o. Passes held held old (sent_by k o) old [] in
    let owed = same.0 (no_bytes front none) in (
      subst (Stands server) (sym (ap (taken_of k w) owed)) stands,
      subst Q (sym owed) (passes_none held old []),
    )

-- ---- connection by connection

-- some were changed and their lines passed on; what is left and that are all
pub record IsUnderway (change : ℕ → World → World) (line : ℕ → World → List ℕ) (ks : List ℕ)
    (w : World) (server : ServerValue) (held held' : Option (List ℕ))
    (rest old new : List ℕ) : Type 0 where
  pub v : World
  pub stands : Stands server v
  pub same : each change rest v ≡ each change ks w
  pub lines : Passes held held' old (each_line change line ks w) new (each_line change line rest v)

pub underway_start : (change : ℕ → World → World) (line : ℕ → World → List ℕ) (ks : List ℕ)
    (w : World) (server : ServerValue) (held : Option (List ℕ)) (lines : List ℕ) → Stands server w →
    IsUnderway change line ks w server held held ks lines lines
underway_start change line ks w server held lines stands = record {
  v = w;
  stands = stands;
  same = refl;
  lines = passes_none held lines (each_line change line ks w);
}

underway_more : (change : ℕ → World → World) (line : ℕ → World → List ℕ)
    (ks : List ℕ) (w : World) (middle server : ServerValue) (held mid held' : Option (List ℕ))
    (k : ℕ) (rest old half new : List ℕ) →
    IsUnderway change line ks w middle held mid (k ∷ rest) old half → ((v : World) →
    Stands middle v → Stands server (change k v) × Passes mid held' half (line k v) new []) →
    IsUnderway change line ks w server held held' rest old new
underway_more change line ks w middle server held mid held' k rest old half new u changes =
    let c = changes u.v u.stands in
    record {
      v = change k u.v;
      stands = c.0;
      same = u.same;
      lines = passes_next held mid held' old (each_line change line ks w) half (line k u.v) new
          (each_line change line rest (change k u.v)) u.lines c.1;
    }

parts_at : (ks : List ℕ) (i k d : ℕ) → i < length ks → k ≡ get_or ks i d →
    drop i ks ≡ k ∷ drop (i + 1) ks
parts_at ks i k d within is = grind (arith, nat_tests, drop-cons)

pub underway_next : (change : ℕ → World → World) (line : ℕ → World → List ℕ)
    (ks : List ℕ) (w : World) (middle server : ServerValue) (held mid held' : Option (List ℕ))
    (i k d : ℕ) (old half new : List ℕ) → i < length ks → k ≡ get_or ks i d →
    IsUnderway change line ks w middle held mid (drop i ks) old half → ((v : World) →
    Stands middle v → Stands server (change k v) × Passes mid held' half (line k v) new []) →
    IsUnderway change line ks w server held held' (drop (i + 1) ks) old new
underway_next change line ks w middle server held mid held' i k d old half new within is u changes =
    let P : List ℕ → Type 0 = λ r. IsUnderway change line ks w middle held mid r old half in
    underway_more change line ks w middle server held mid held' k (drop (i + 1) ks) old half new
    (subst P (parts_at ks i k d within is) u) changes

pub underway_breaks : (change : ℕ → World → World) (line : ℕ → World → List ℕ) (ks : List ℕ)
    (w : World) (middle : ServerValue) (held mid held' : Option (List ℕ)) (i k d : ℕ)
    (old half : List ℕ) → i < length ks →
    k ≡ get_or ks i d → IsUnderway change line ks w middle held mid (drop i ks) old half →
    ((v : World) → Stands middle v → Breaks mid held' half (line k v)) →
    Breaks held held' old (each_line change line ks w)
underway_breaks change line ks w middle held mid held' i k d old half within is u breaks =
    let P : List ℕ → Type 0 = λ r. IsUnderway change line ks w middle held mid r old half in
    let e = subst P (parts_at ks i k d within is) u in
    breaks_next held mid held' old (each_line change line ks w) half (line k e.v)
    (each_line change line (drop (i + 1) ks) (change k e.v)) e.lines (breaks e.v e.stands)

-- ---- the lines of a world

told_is : (w : World) (ids : List ℕ) → ids ≡ pending_in w →
    all_sent ids w ++ all_shut ids (all_taken ids w) ≡ lines_after w
told_is w ids is = rw is (all_told w)

-- all that is told of a world was written, and nothing waits
pub lines_put : (w : World) (server : ServerValue) (ids half near : List ℕ)
    (h0 h1 h2 h3 : Option (List ℕ)) → ids ≡ pending_in w →
    Stands server (all_forgotten ids (all_taken ids w)) → Passes h0 h1 [] (all_sent ids w) half [] →
    Passes h1 h2 half (all_shut ids (all_taken ids w)) near [] → Passes h2 h3 near [] [] [] →
    Stands server (settled w) × Grows h0 h3 (lines_after w)
lines_put w server ids half near h0 h1 h2 h3 is stands sent shut out =
    let Q : List ℕ → Type 0 = λ t. Grows h0 h3 t in
    let both = passes_two h0 h1 h2 [] (all_sent ids w) half
    (all_shut ids (all_taken ids w)) near sent shut in
    let all = passes_two h0 h2 h3 []
    (all_sent ids w ++ all_shut ids (all_taken ids w)) near [] [] both out in (
      subst (Stands server) (rw is (all_settled w)) stands,
      subst Q (append-nil (all_sent ids w ++ all_shut ids (all_taken ids w)) ∙ told_is w ids is)
          (passes_all h0 h3 _ all),
    )

-- it broke in what tells what was sent
pub lines_break_sent : (w : World) (ids : List ℕ) (h0 h1 : Option (List ℕ)) →
    ids ≡ pending_in w → Breaks h0 h1 [] (all_sent ids w) → Breaks h0 h1 [] (lines_after w)
lines_break_sent w ids h0 h1 is b =
    let P : List ℕ → Type 0 = λ t. Breaks h0 h1 [] t in
    subst P (told_is w ids is)
    (breaks_early h0 h1 [] (all_sent ids w) (all_shut ids (all_taken ids w)) b)

-- in what tells who was closed
pub lines_break_shut : (w : World) (ids half : List ℕ) (h0 h1 h2 : Option (List ℕ)) →
    ids ≡ pending_in w → Passes h0 h1 [] (all_sent ids w) half [] →
    Breaks h1 h2 half (all_shut ids (all_taken ids w)) → Breaks h0 h2 [] (lines_after w)
lines_break_shut w ids half h0 h1 h2 is sent b =
    let P : List ℕ → Type 0 = λ t. Breaks h0 h2 [] t in
    let shut : List ℕ = all_shut ids (all_taken ids w) in
    subst P (ap (λ (t : List ℕ). all_sent ids w ++ t) (append-nil shut) ∙ told_is w ids is)
    (breaks_two h0 h1 h2 [] (all_sent ids w) half shut [] sent b)

-- or where all waits
pub lines_break_out : (w : World) (ids half near : List ℕ) (h0 h1 h2 h3 : Option (List ℕ)) →
    ids ≡ pending_in w → Passes h0 h1 [] (all_sent ids w) half [] →
    Passes h1 h2 half (all_shut ids (all_taken ids w)) near [] → Breaks h2 h3 near [] →
    Breaks h0 h3 [] (lines_after w)
lines_break_out w ids half near h0 h1 h2 h3 is sent shut b =
    let P : List ℕ → Type 0 = λ t. Breaks h0 h3 [] t in
    let text : List ℕ = all_sent ids w ++ all_shut ids (all_taken ids w) in
    let both = passes_two h0 h1 h2 [] (all_sent ids w) half
    (all_shut ids (all_taken ids w)) near sent shut in
    subst P (append-nil text ∙ told_is w ids is) (breaks_two h0 h2 h3 [] text near [] [] both b)
