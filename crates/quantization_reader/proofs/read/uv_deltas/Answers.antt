use Rattle.quantization.specs.Quantization.{uv_deltas}
use Rattle.quantization_reader.specs.Layout.{uv_place}
use Rattle.fill.proofs.Filling.{begin}
use Rattle.parts_reader.proofs.Storing.{put_same}
use Rattle.quantization_reader.proofs.Deltas.{delta_of, delta_small, final_v}
use Rattle.quantization_reader.proofs.read.uv_deltas.Goals as goal

pub returns : goal.returns
unfolding uv_deltas uv_place
returns c =
    let dc = c.in_ok-dc.ensures.said in
    let ac = c.in_ok-ac.ensures.said in
    begin _ (put_same _ _ (delta_of _ dc) (delta_small dc) _ _ (put_same _ _ (delta_of _ ac) (delta_small ac) _ _ (final_v _ _ _ (delta_small dc) (delta_small ac) c.v_deltas.ensures)))
