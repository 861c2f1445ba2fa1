use Rattle.sw_codec.proofs.SizeLemmas.{quota_size}
use Rattle.sw_codec.proofs.laws.has_quota_size.Goals as goal

pub returns : goal.returns
returns c = quota_size
