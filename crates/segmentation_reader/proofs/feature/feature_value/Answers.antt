use Rattle.segmentation_reader.proofs.Values.{signed-done}
use Rattle.segmentation_reader.proofs.feature.feature_value.Goals as goal

pub returns-then-j-lt5 : goal.returns-then-j-lt5
returns-then-j-lt5 c =
    signed-done c.args.j _ c.feature_bits.ensures.value c.feature_bits.ensures.upper_bound c.if-j-lt5.true c.in_ok-value.ensures.said c.feature_max.ensures.value c.feature_max.type_inv c.from-limit.ensures c.clamp.type_inv c.clamp.ensures.value
