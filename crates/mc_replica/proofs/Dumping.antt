-- The lines of a dump, one part after another.
use Rattle.std.proofs.Common.{◌≡◌, ℕ, ◌+◌, ◌<◌, List, [], ◌++◌, length, map, drop, take, get_or}
use Rattle.std.proofs.Common.{Option}
use Rattle.std.proofs.Common.{ap, sym, subst, ◌∙◌}
use Rattle.std.specs.FinMap.{entries}
use Rattle.std.specs.List.{flat_map}
use Rattle.std.proofs.lemmas.Grind.{flat_map-append}
use Rattle.std.proofs.lemmas.List.{append-nil, drop_more}
use Rattle.std.proofs.lemmas.List.Folds.{flat_map-map}
use lib.IntN.{ℤ}
use Rattle.mc_column.specs.Cells.{ColumnValue}
use Rattle.mc_land.specs.Places.{Place}
use Rattle.mc_model.specs.Replica.{Replica}
use Rattle.mc_model.specs.Sight.{Seen, Sight}
use Rattle.mc_text.specs.Lines.{ended_line}
use Rattle.mc_wire.specs.Stream.{Grows}
use Rattle.mc_text.specs.Passes.{Breaks, Passes, SendsPart}
use Rattle.mc_text.proofs.Passing.{breaks_next, passes_next, passes_none}
use Rattle.mc_replica.specs.declared.player_list.Listed.{Listed}
use Rattle.mc_replica.specs.Dump.{chat_line, column_line, dump_text, entity_line, player_line}
use Rattle.mc_replica.specs.Dump.{sight_lines, text_of, times_lines, window_lines}
use Rattle.mc_replica.specs.KeptPlayers.{row_of, rows_of}
use Rattle.mc_replica.specs.Slots.{WindowValue, window_of}

-- ---- lines of things, one after another

module _ {X : Type 0} (f : X → List ℕ) (xs : List X) (i : ℕ) (x : X) where
  from_here : i < length xs → x ≡ get_or xs i x →
      flat_map f (drop i xs) ≡ f x ++ flat_map f (drop (i + 1) xs)
  from_here lt is =
      ap (flat_map f) (drop_more xs i x lt)
      ∙ ap (λ (y : X). f y ++ flat_map f (drop (i + 1) xs)) (sym is)

  pub next_line : (held middle held' : Option (List ℕ)) (old half new : List ℕ) → i < length xs →
      x ≡ get_or xs i x → Passes held middle old (flat_map f xs) half (flat_map f (drop i xs)) →
      Passes middle held' half (f x) new [] →
      Passes held held' old (flat_map f xs) new (flat_map f (drop (i + 1) xs))
  next_line held middle held' old half new lt is a b =
      let P : List ℕ → Type 0 = λ t. Passes held middle old (flat_map f xs) half t in
      passes_next held middle held' old (flat_map f xs) half (f x) new
      (flat_map f (drop (i + 1) xs)) (subst P (from_here lt is) a) b

  pub line_breaks : (held middle held' : Option (List ℕ)) (old half : List ℕ) → i < length xs →
      x ≡ get_or xs i x → Passes held middle old (flat_map f xs) half (flat_map f (drop i xs)) →
      Breaks middle held' half (f x) → Breaks held held' old (flat_map f xs)
  line_breaks held middle held' old half lt is a b =
      let P : List ℕ → Type 0 = λ t. Passes held middle old (flat_map f xs) half t in
      breaks_next held middle held' old (flat_map f xs) half (f x)
      (flat_map f (drop (i + 1) xs)) (subst P (from_here lt is) a) b

-- ---- all of them are the dump

module _ (s : Sight) where
  parts : text_of (sight_lines s) ≡ text_of (times_lines s.age s.beat)
      ++ (text_of (map player_line (entries s.pairs))
      ++ (text_of (map column_line (entries s.columns))
      ++ (text_of (map entity_line (entries s.entities))
      ++ (text_of (window_lines s.window s.pack s.cursor) ++ text_of (map chat_line s.chat)))))
  parts =
      flat_map-append ended_line (times_lines s.age s.beat) _
      ∙ ap (λ (t : List ℕ). text_of (times_lines s.age s.beat) ++ t)
      (flat_map-append ended_line (map player_line (entries s.pairs)) _
      ∙ ap (λ (t : List ℕ). text_of (map player_line (entries s.pairs)) ++ t)
      (flat_map-append ended_line (map column_line (entries s.columns)) _
      ∙ ap (λ (t : List ℕ). text_of (map column_line (entries s.columns)) ++ t)
      (flat_map-append ended_line (map entity_line (entries s.entities)) _
      ∙ ap (λ (t : List ℕ). text_of (map entity_line (entries s.entities)) ++ t)
      (flat_map-append ended_line (window_lines s.window s.pack s.cursor)
      (map chat_line s.chat)))))

players_said : (rows : List Listed) (es : List (ℕ × List ℕ)) → rows_of rows ≡ es →
    text_of (map player_line es)
    ≡ flat_map (λ (e : Listed). ended_line (player_line (row_of e))) rows
players_said rows es is =
    flat_map-map ended_line player_line es
    ∙ ap (flat_map (λ (e : ℕ × List ℕ). ended_line (player_line e))) (sym is)
    ∙ flat_map-map (λ (e : ℕ × List ℕ). ended_line (player_line e)) row_of rows

said : {X : Type 0} (line : X → List ℕ) (xs ys : List X) → xs ≡ ys →
    text_of (map line ys) ≡ flat_map (λ (x : X). ended_line (line x)) xs
said {X} line xs ys is =
    flat_map-map ended_line line ys
    ∙ ap (flat_map (λ (x : X). ended_line (line x))) (sym is)

-- nothing of a dump was put yet, of what is read of a replica
pub dump_begins : (r : Replica) (players : List Listed) {age beat : Option ℤ}
    {columns : List (Place × ColumnValue)} {entities : List (ℤ × Seen)} {window : WindowValue}
    {chat : List (List ℕ)} → age ≡ r.sight.age → beat ≡ r.sight.beat →
    rows_of players ≡ entries r.sight.pairs → columns ≡ entries r.sight.columns →
    entities ≡ entries r.sight.entities → window ≡ window_of r.sight → chat ≡ r.sight.chat →
    (held : Option (List ℕ)) (old : List ℕ) →
    Passes held held old (dump_text r) old (text_of (times_lines age beat)
    ++ (flat_map (λ (e : Listed). ended_line (player_line (row_of e))) players
    ++ (flat_map (λ (e : Place × ColumnValue). ended_line (column_line e)) columns
    ++ (flat_map (λ (e : ℤ × Seen). ended_line (entity_line e)) entities
    ++ (text_of (window_lines window.window window.pack window.cursor)
    ++ flat_map (λ (text : List ℕ). ended_line (chat_line text)) chat)))))
unfolding dump_text
dump_begins r players {age} {beat} {columns} {entities} {window} {chat} a b ps cs es w ts held old =
    let P : List ℕ → Type 0 = λ t. Passes held held old (dump_text r) old t in
    rw (
      a,
      b,
      w,
      ← players_said players (entries r.sight.pairs) ps,
      ← said column_line columns (entries r.sight.columns) cs,
      ← said entity_line entities (entries r.sight.entities) es,
      ← said chat_line chat r.sight.chat ts,
    ) (subst P (parts r.sight) (passes_none held old (dump_text r)))

-- the last part, behind which nothing is to come
pub passes_last : (held middle held' : Option (List ℕ)) (old all half text new : List ℕ) →
    Passes held middle old all half text → Passes middle held' half text new [] →
    Passes held held' old all new []
passes_last held middle held' old all half text new a b =
    let P : List ℕ → Type 0 = λ t. Passes held middle old all half t in
    passes_next held middle held' old all half text new [] (subst P (sym (append-nil text)) a) b

pub breaks_last : (held middle held' : Option (List ℕ)) (old all half text : List ℕ) →
    Passes held middle old all half text → Breaks middle held' half text →
    Breaks held held' old all
breaks_last held middle held' old all half text a b =
    let P : List ℕ → Type 0 = λ t. Passes held middle old all half t in
    breaks_next held middle held' old all half text [] (subst P (sym (append-nil text)) a) b

-- the last lines were not written
pub dump_breaks : (held middle held' : Option (List ℕ)) (old all half : List ℕ) → old ≡ [] →
    Passes held middle old all half [] → Breaks middle held' half [] → SendsPart held held' all
dump_breaks held middle held' old all half none a b =
    let broken = breaks_next held middle held' old all half [] [] a b in
    let P : List ℕ → Type 0 = λ t. Grows held held' (take broken.len (t ++ all)) in
    (broken.len, subst P none broken.wrote)
