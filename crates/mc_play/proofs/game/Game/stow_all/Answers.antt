use Rattle.std.proofs.Common.{◌≡◌, ◌+◌, ◌∷◌, drop, ap, sym, ◌∙◌, ℤ}
use Rattle.std.proofs.lemmas.List.{drop_more}
use Rattle.mc_slots.specs.declared.pile.Item.{Item}
use Rattle.mc_play.proofs.Stowing.{stow_next}
use Rattle.mc_play.proofs.game.Game.stow_all.Goals as goal

pub loop-ripe-preserved : goal.loop-ripe-preserved
loop-ripe-preserved c =
    let found = c.args.found.now in
    let i = c.loop-ripe.ripe-index in
    let h = c.loop-ripe.invariant in
    let ripe : ℤ × Item = c.ripe-item.result in
    let next : drop i found ≡ ripe ∷ drop (i + 1) found =
    drop_more found i ripe c.loop-ripe-test.true
    ∙ ap (λ (x : ℤ × Item). x ∷ drop (i + 1) found) (sym c.ripe-item.is) in
    record {
      game = stow_next c.args.connection found _ _ ripe _ _ _ next h.game
          c.in_ok-stow.ensures.is;
      rest = c.in_ok-stow.ensures.rest ∙ (λ j. record {
        game = c.stow.new.self.game;
        settled = (h.rest j).settled;
        aside = c.stow.new.self.aside;
      });
      ready = c.in_ok-stow.ensures.ready ∙ h.ready;
    }
