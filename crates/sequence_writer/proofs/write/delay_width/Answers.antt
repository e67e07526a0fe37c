use native.Mathlib.Omega.{arith}
use Rattle.bits.specs.Codec.{choose, absent, via, ◌▷◌, f}
use Rattle.sequence.specs.Timing.{decoder_model_info_if, decoder_model_info}
use Rattle.sequence_writer.proofs.write.delay_width.Goals as goal

pub overflow_add-result : goal.overflow_add-result
unfolding decoder_model_info_if decoder_model_info choose absent via ◌▷◌ f
overflow_add-result c = omega (arith, rw c.if-has_model.true at c.requires)

pub returns-then-has_model : goal.returns-then-has_model
unfolding decoder_model_info_if decoder_model_info choose absent via ◌▷◌ f
returns-then-has_model c = rw c.if-has_model.true

pub returns : goal.returns
unfolding decoder_model_info_if decoder_model_info choose absent via ◌▷◌ f
returns c = rw c.if-has_model.false
