-- The format of values until an end byte.
use Rattle.std.specs.Prelude.{ℕ, suc, ◌<◌, List, ◌++◌, length}
use Rattle.mc_bytes.specs.Format.{Format, Anything}
use Rattle.mc_bytes.specs.Times.{SpelledUntil}
use Rattle.mc_bytes.specs.TimesLaws.{until_found}
use Rattle.mc_bytes.specs.ManyBytes.{AllFit}
use Rattle.mc_bytes.specs.UntilBytes.{headed_read, headed_spells, IsHead, until_read, headed_fits}
use Rattle.mc_bytes.specs.UntilBytes.{until_spelling, until_append, until_most}
use Rattle.mc_bytes.specs.UntilLaws.{headed_found, headed_only, until_enough, until_only, until_fit}
use Rattle.mc_bytes.specs.UntilLaws.{until_spelled, until_appended, until_bounded}
unfoldable pub use Rattle.mc_bytes.specs.UntilBytes.{headed_read, headed_spells, IsHead}
unfoldable pub use Rattle.mc_bytes.specs.UntilBytes.{headed_fits, until_append, until_most}
pub use Rattle.mc_bytes.specs.UntilBytes.{Headed}
pub use Rattle.mc_bytes.specs.UntilLaws.{headed_shorter}

-- ---- many of them

-- values until the end byte; body says how the rest of a value is spelled behind its byte
abbrev pub until : {Rest : List ℕ → Type 0} {A : Type 0} (end : ℕ) → end < 256 → (head_of : A
    → ℕ) (body : ℕ → Format Anything A) → IsHead head_of (λ head. (body head).spells)
    → Format Rest (List A)
until {Rest} {A} end small head_of body is_head = record {
  spells = SpelledUntil (headed_spells end head_of (λ head. (body head).spells));
  read = until_read (headed_read end (λ head. (body head).read));
  fits = AllFit (headed_fits end head_of (λ head. (body head).fits));
  spelling = until_spelling end head_of (λ head. (body head).spelling);
  append = until_append end head_of (λ head. (body head).append);
  most = until_most head_of (λ head. (body head).most);
  found = λ bytes. until_found (headed_spells end head_of (λ head. (body head).spells))
      (headed_read end (λ head. (body head).read)) (headed_found end head_of
      (λ head. (body head).spells) (λ head. (body head).read) (λ head. (body head).found) is_head)
      (suc (length bytes)) bytes;
  only = λ xs front rest ends s. until_only (headed_spells end head_of (λ head. (body head).spells))
      (headed_read end (λ head. (body head).read)) (headed_only end small head_of
      (λ head. (body head).spells) (λ head. (body head).read) (λ head. (body head).only))
      (suc (length (front ++ rest))) xs front rest (until_enough end head_of
      (λ head. (body head).spells) xs front rest s) s;
  fit = until_fit end head_of (λ head. (body head).spells) (λ head. (body head).fits)
      (λ head. (body head).fit);
  spelled = until_spelled end head_of (λ head. (body head).spells) (λ head. (body head).fits)
      (λ head. (body head).spelling) (λ head. (body head).spelled);
  appended = until_appended end head_of (λ head. (body head).spelling) (λ head. (body head).append)
      (λ head. (body head).appended);
  bounded = until_bounded end head_of (λ head. (body head).spells) (λ head. (body head).most)
      (λ head. (body head).bounded);
}
