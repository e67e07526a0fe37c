use mathlib.Core.Path.{refl}
use Rattle.quantization.specs.Quantization.{matrices}
use Rattle.quantization_reader.specs.Layout.{matrices_place}
use Rattle.reader.proofs.Reading.{f_of}
use Rattle.fill.proofs.Filling.{begin, put_halt, put_no}
use Rattle.fill.proofs.Signs.{natural_fits, put_natural}
use Rattle.parts_reader.proofs.Storing.{fit_last}
use Rattle.quantization_reader.proofs.Deltas.{v_matrix_fits}
use Rattle.quantization_reader.proofs.read.matrices.Goals as goal

pub returns-in_err-u : goal.returns-in_err-u
unfolding matrices matrices_place
returns-in_err-u c = begin _ (put_natural _ _ _ _ _ _ _ (f_of 4 _ 0 c.in_ok-n.ensures.said) refl (put_halt _ _ (f_of 4 _ 0 c.in_err-u.ensures.said) c.from_residual-in_err-u.ensures.1))

pub returns-in_err-n-2 : goal.returns-in_err-n-2
unfolding matrices matrices_place
returns-in_err-n-2 c =
    begin _ (put_natural _ _ _ _ _ _ _ (f_of 4 _ 0 c.in_ok-n.ensures.said) refl (put_natural _ _ _ _ _ _ _ (f_of 4 _ 0 c.in_ok-u.ensures.said) refl (put_no _ c.in_err-n-2.ensures c.from_residual-in_err-n-2.ensures.1)))

pub returns : goal.returns
unfolding matrices matrices_place
returns c =
    let v = c.in_ok-n-2.ensures in
    let fits = v_matrix_fits _ _ (natural_fits 4 0 0 c.in_ok-u.ensures.said refl) v in
    begin _ (put_natural _ _ _ _ _ _ _ (f_of 4 _ 0 c.in_ok-n.ensures.said) refl (put_natural _ _ _ _ _ _ _ (f_of 4 _ 0 c.in_ok-u.ensures.said) refl (fit_last _ _ v fits refl)))
