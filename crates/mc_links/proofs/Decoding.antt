-- What a session makes of a frame, in the words of a connection.
use Rattle.std.proofs.Common.{◌≡◌, ℕ, List, Option, None, Some, sym, ap, ◌∙◌}
use Rattle.mc_model.specs.declared.cause.Cause.{Cause}
use Rattle.mc_model.specs.declared.stage.Stage.{Stage}
use Rattle.mc_model.specs.declared.stage.Stage.TheVariants as stages
use Rattle.mc_model.specs.Talk.{ClientRequest, nothing, request_of}
use Rattle.mc_session.specs.State.{State}
use Rattle.mc_session.specs.Answers.{next_of, step_of}
use Rattle.mc_session.specs.declared.step.Step.{Step}
use Rattle.mc_session.specs.declared.step.Step.TheVariants.{Nothing}
use Rattle.mc_links.specs.Kept.{ConnectionValue, decoded, stage_of, state_of}

module _ (v c : ConnectionValue) (same : v ≡ c) (cause : Option Cause) (none : cause ≡ None)
    (old : State) (stage_is : v.link.stage ≡ stage_of cause old.stage)
    (protocol_is : v.link.protocol ≡ old.protocol) where
  -- without a cause a connection is as far as its session
  state_is : old ≡ state_of c.link
  state_is =
      let stage : old.stage ≡ c.link.stage =
      sym (stage_is ∙ ap (λ (o : Option Cause). stage_of o old.stage) none)
      ∙ ap (λ (d : ConnectionValue). d.link.stage) same in
      let protocol : old.protocol ≡ c.link.protocol =
      sym protocol_is ∙ ap (λ (d : ConnectionValue). d.link.protocol) same in
      λ i. record { stage = stage i; protocol = protocol i }

  -- what is to be done
  pub step_told : (say : Stage → ClientRequest) (step : Step) →
      step ≡ step_of old (say old.stage) → step ≡ step_of (state_of c.link) (say c.link.stage)
  step_told say step e =
      e ∙ ap (λ (state : State). step_of state (say state.stage)) state_is

  -- and how far it has come then
  pub next_told : (say : Stage → ClientRequest) (new : State) →
      new ≡ next_of old (say old.stage) →
      record v {
        link = record v.link {
          stage = stage_of cause new.stage;
          protocol = new.protocol;
        };
      } ≡ record c { link = decoded c.link (say c.link.stage) }
  next_told say new e =
      let there : new ≡ next_of (state_of c.link) (say c.link.stage) =
      e ∙ ap (λ (state : State). next_of state (say state.stage)) state_is in
      ap (λ (o : Option Cause). record v {
        link = record v.link {
          stage = stage_of o new.stage;
          protocol = new.protocol;
        };
      }) none
      ∙ ap (λ (d : ConnectionValue). record d {
        link = record d.link {
          stage = new.stage;
          protocol = new.protocol;
        };
      }) same
      ∙ ap (λ (state : State). record c {
        link = record c.link {
          stage = state.stage;
          protocol = state.protocol;
        };
      }) there

-- ---- a closed connection

-- whatever comes of it is ignored
asks_nothing : (stage : Stage) (most online : ℕ) (frame : List ℕ) → stage ≡ stages.Closed →
    nothing ≡ request_of stage most online frame
unfolding request_of
asks_nothing stage most online frame over =
    sym (ap (λ (s : Stage). request_of s most online frame) over)

module _ (v c : ConnectionValue) (same : v ≡ c) (o : Option Cause) (cause : Cause)
    (some : o ≡ Some cause) (stage : Stage) (stage_is : v.link.stage ≡ stage_of o stage)
    (most online : ℕ) (frame : List ℕ) where
  ignored : nothing ≡ request_of c.link.stage most online frame
  ignored = asks_nothing c.link.stage most online frame
      (sym (ap (λ (d : ConnectionValue). d.link.stage) same) ∙ stage_is
      ∙ ap (λ (p : Option Cause). stage_of p stage) some)

  pub closed_step : Nothing ≡ step_of (state_of c.link) (request_of c.link.stage most online frame)
  closed_step = ap (λ (what : ClientRequest). step_of (state_of c.link) what) ignored

  pub closed_next :
      c ≡ record c { link = decoded c.link (request_of c.link.stage most online frame) }
  closed_next = ap (λ (what : ClientRequest). record c { link = decoded c.link what }) ignored
