use Rattle.mc_laws.proofs.Decoding.Streams.{stream_decoded}
use Rattle.mc_laws.proofs.Headline.Promise.{one_decoded}
use Rattle.mc_laws.proofs.promise.bytes_are_decoded.Goals as goal

pub returns-clause-decoded : goal.returns-clause-decoded
returns-clause-decoded c = stream_decoded

pub returns-clause-one_way : goal.returns-clause-one_way
returns-clause-one_way c = one_decoded
