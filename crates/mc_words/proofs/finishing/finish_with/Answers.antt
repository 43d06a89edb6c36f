use Rattle.std.proofs.Common.{◌∙◌, inl, refl}
use Rattle.mc_words.proofs.Finishes.{wrote_last}
use Rattle.mc_words.proofs.finishing.finish_with.Goals as goal

pub returns : goal.returns
returns g c = λ bytes is. inl (
  refl,
  wrote_last c.write_all.result _ _ _ _ c.as_bytes.result.now bytes c.write_all.ensures.whole
      c.write_all.ensures.part c.write_all.ensures.failed
      (c.as_bytes.ensures.value ∙ rw c.in-Ok.is at is),
)
