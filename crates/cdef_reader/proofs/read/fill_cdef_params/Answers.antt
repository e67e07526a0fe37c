use Rattle.parts_reader.proofs.Telling.{no_begin, no_part, all_part, place_fits}
use Rattle.cdef_reader.proofs.read.fill_cdef_params.Goals as goal

pub returns-in_err-r : goal.returns-in_err-r
returns-in_err-r c = no_begin _ c.in_err-r.ensures c.from_residual.ensures.1

pub returns-in_err-cdef_params : goal.returns-in_err-cdef_params
returns-in_err-cdef_params c = no_part _ c.in_ok-r.ensures c.in_err-cdef_params.ensures c.from_residual-in_err-cdef_params.ensures.1

pub overflow_cast-result : goal.overflow_cast-result
overflow_cast-result c = place_fits c.in_ok-r.ensures c.in_ok-cdef_params.ensures

pub returns : goal.returns
returns c = all_part _ c.in_ok-r.ensures c.in_ok-cdef_params.ensures
