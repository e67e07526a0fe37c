use mathlib.Core.Path.{refl}
use Rattle.quantization.specs.Quantization.{v_coded}
use Rattle.quantization_reader.specs.Layout.{v_place}
use Rattle.fill.proofs.Filling.{begin}
use Rattle.parts_reader.proofs.Storing.{put_same, same_last}
use Rattle.quantization_reader.proofs.Deltas.{delta_of, delta_small}
use Rattle.quantization_reader.proofs.read.v_coded.Goals as goal

pub returns : goal.returns
unfolding v_coded v_place
returns c =
    let dc = c.in_ok-n.ensures.said in
    let ac = c.in_ok-n-2.ensures.said in
    begin _ (put_same _ _ (delta_of _ dc) (delta_small dc) _ _ (same_last _ _ (delta_of _ ac) (delta_small ac) refl))
