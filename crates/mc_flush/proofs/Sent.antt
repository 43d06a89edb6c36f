-- What is appended of a tick, part after part, and what its looks at cells cost.
use Rattle.std.proofs.Common.{◌≡◌, ℕ, List, Option, ◌++◌, ap, ◌∙◌, append_assoc}
use Rattle.mc_land.specs.Land.{LandValue}
use Rattle.mc_slots.specs.declared.pile.Pile.{Pile}
use Rattle.mc_windows.specs.Pack.{PackValue}
use Rattle.mc_entities.specs.declared.entity.Entity.{Entity}
use Rattle.mc_packets.specs.declared.down.Down.{Down}
use Rattle.mc_view.specs.declared.view_set.ViewSet.{ViewSet}
use Rattle.mc_model.specs.Delta.{beat_packets, destroying, time_packets}
use Rattle.mc_flush.specs.Lists.{ListValue}
use Rattle.mc_sending.specs.Sending.{play_bytes}
use Rattle.mc_flush.specs.Seeing.{MarkValue, age_packets, carried_packets, changes, column_packets}
use Rattle.mc_flush.specs.Seeing.{held_packets, joiner_packets, leaver_packets, line_packets}
use Rattle.mc_flush.specs.Seeing.{listed, loaded, player_packets, stayed, unloaded}
use Rattle.mc_flush.specs.Seeing.{window_packets}
use Rattle.mc_loads.specs.Columns.{changed_packets, load_packets, unload_packets}
use Rattle.mc_told.specs.Telling.{age_now, beat_now, entity_frames, gone_from}
use Rattle.mc_sending.proofs.Pieces.{play_bytes-append}

-- ---- part after part

-- all that differs
pub changes_put_all : (land : LandValue) (list : ListValue) (es : List Entity) (pack : PackValue)
    (chest : Option (List Pile)) (mark : MarkValue) (view : ViewSet) (age : ℕ)
    (lines : List (List ℕ))
    (old first one two three four five new : List ℕ) →
    first ≡ old ++ play_bytes (age_packets mark age) →
    one ≡ first ++ play_bytes (player_packets (listed mark list) list.present) →
    two ≡ one ++ play_bytes (destroying (gone_from mark.told es view)) →
    three ≡ two ++ play_bytes (column_packets land mark view) →
    four ≡ three ++ play_bytes (entity_frames mark.told es view) →
    five ≡ four ++ play_bytes (carried_packets mark pack chest) →
    new ≡ five ++ play_bytes (line_packets lines) →
    new ≡ old ++ play_bytes (changes land list es pack chest mark view age lines)
unfolding changes
changes_put_all land list es pack chest mark view age lines old first one two three four five new b
    e f g h k m =
    let w = beat_packets mark.beat (beat_now age) in
    let t = time_packets mark.age (age_now age) in
    let l = leaver_packets (listed mark list) list.present in
    let j = joiner_packets (listed mark list) list.present in
    let d = destroying (gone_from mark.told es view) in
    let u = unload_packets (unloaded mark view) in
    let o = load_packets land (loaded mark view) in
    let c = changed_packets land (stayed mark view) in
    let n = entity_frames mark.told es view in
    let p = window_packets mark pack chest in
    let q = held_packets mark.cursor pack.cursor in
    let s = line_packets lines in
    m ∙ ap (λ (bytes : List ℕ). bytes ++ play_bytes s)
    (k ∙ ap (λ (bytes : List ℕ). bytes ++ play_bytes (p ++ q))
    (h ∙ ap (λ (bytes : List ℕ). bytes ++ play_bytes n)
    (g ∙ ap (λ (bytes : List ℕ). bytes ++ play_bytes (u ++ (o ++ c)))
    (f ∙ ap (λ (bytes : List ℕ). bytes ++ play_bytes d)
    (e ∙ ap (λ (bytes : List ℕ). bytes ++ play_bytes (l ++ j)) b)))))
    ∙ joined_all old (w ++ t) (l ++ j) d (u ++ (o ++ c)) n (p ++ q) s
    ∙ ap (λ (ds : List Down). old ++ play_bytes ds) (flat w t l j d u o c n p q s)
  where
    joined_all : (o : List ℕ) (a b c d e f g : List Down) →
        ((((((o ++ play_bytes a) ++ play_bytes b) ++ play_bytes c) ++ play_bytes d) ++ play_bytes e)
        ++ play_bytes f) ++ play_bytes g
        ≡ o ++ play_bytes ((((((a ++ b) ++ c) ++ d) ++ e) ++ f) ++ g)
    joined_all o a b c d e f g = rw (
      play_bytes-append (((((a ++ b) ++ c) ++ d) ++ e) ++ f) g,
      play_bytes-append ((((a ++ b) ++ c) ++ d) ++ e) f,
      play_bytes-append (((a ++ b) ++ c) ++ d) e,
      play_bytes-append ((a ++ b) ++ c) d,
      play_bytes-append (a ++ b) c,
      play_bytes-append a b,
    ) (simp append_assoc)

    flat : (w t l j d u o c n p q s : List Down) →
        ((((((w ++ t) ++ (l ++ j)) ++ d) ++ (u ++ (o ++ c))) ++ n) ++ (p ++ q)) ++ s
        ≡ w ++ (t ++ (l ++ (j ++ (d ++ (u ++ (o ++ (c ++ (n ++ (p ++ (q ++ s))))))))))
    flat w t l j d u o c n p q s = simp append_assoc
