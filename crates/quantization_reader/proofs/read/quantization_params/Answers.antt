use mathlib.Core.Path.{refl}
use Rattle.quantization.specs.Quantization.{quantization_params, quantization_table}
use Rattle.quantization_reader.specs.Layout.{quantization_place}
use Rattle.reader.proofs.Reading.{f_of}
use Rattle.fill.proofs.Filling.{begin, struct, put_halt, halted, onward, final}
use Rattle.fill.proofs.Signs.{put_natural}
use Rattle.parts_reader.proofs.Storing.{put_same}
use Rattle.quantization_reader.proofs.Deltas.{delta_of, delta_small}
use Rattle.quantization_reader.proofs.read.quantization_params.Goals as goal

pub returns-in_err-n-2 : goal.returns-in_err-n-2
unfolding quantization_params quantization_table quantization_place
returns-in_err-n-2 c =
    begin _ (struct _ _ _ _ (λ a. refl) (put_natural _ _ _ _ _ _ _ (f_of 8 _ 0 c.in_ok-n.ensures.said) refl (put_halt _ _ (delta_of _ c.in_err-n-2.ensures.said) c.from_residual-in_err-n-2.ensures.1)))

pub returns-in_err-chroma : goal.returns-in_err-chroma
unfolding quantization_params quantization_table quantization_place
returns-in_err-chroma c =
    let y = c.in_ok-n-2.ensures.said in
    begin _ (struct _ _ _ _ (λ a. refl) (put_natural _ _ _ _ _ _ _ (f_of 8 _ 0 c.in_ok-n.ensures.said) refl (put_same _ _ (delta_of _ y) (delta_small y) _ _ (halted _ _ c.in_err-chroma.ensures c.from_residual-in_err-chroma.ensures.1))))

pub returns : goal.returns
unfolding quantization_params quantization_table quantization_place
returns c =
    let y = c.in_ok-n-2.ensures.said in
    begin _ (struct _ _ _ _ (λ a. refl) (put_natural _ _ _ _ _ _ _ (f_of 8 _ 0 c.in_ok-n.ensures.said) refl (put_same _ _ (delta_of _ y) (delta_small y) _ _ (onward _ _ _ _ c.in_ok-chroma.ensures (λ _. final _ c.qmatrix.ensures refl)))))
