use Rattle.mc_session.proofs.Requests.{request_read}
use Rattle.mc_session.proofs.session.is_request.Goals as goal

pub returns-in-len1 : goal.returns-in-len1
returns-in-len1 c =
    request_read c.args.frame.now c.in-len1.len_at_least c.in-len1.len_below
