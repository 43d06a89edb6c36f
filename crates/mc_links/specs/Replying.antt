-- What a connection is once a frame was answered where it stands. Rules of this project.
use Rattle.std.specs.Prelude.{◌≡◌, ℕ, Bool, true, false, List, [], ◌∷◌}
use Rattle.mc_frame.specs.Splitting.{TakesFrame}
use Rattle.mc_hello.specs.declared.status_down.StatusDown.{StatusDown}
use Rattle.mc_model.specs.Link.{hand}
use Rattle.mc_model.specs.Packets.{of_status}
use Rattle.mc_model.specs.Stages.{is_closed}
use Rattle.mc_model.specs.Talk.{replies, request_of}
use Rattle.mc_links.specs.Kept.{ConnectionValue}

-- the next frame was taken, with so many players at most and in play; it comes to a packet as its
-- answer, which was handed out, and there was room for it
pub record HasReplied (most online : ℕ) (old new : ConnectionValue) : Type 0 where
  pub frame : List ℕ
  pub packet : StatusDown
  pub taken : TakesFrame old.splitter frame new.splitter
  pub asked : request_of old.link.stage most online frame ≡ replies packet
  pub handed : new ≡ record old {
    splitter = new.splitter;
    link = (hand old.link (of_status packet ∷ [])).link;
  }
  pub open_ : is_closed new.link.stage ≡ false

-- or nothing was done
abbrev pub MayReply : Bool → ℕ → ℕ → ConnectionValue → ConnectionValue → Type 0
MayReply true most online old new = HasReplied most online old new
MayReply false most online old new = new ≡ old
