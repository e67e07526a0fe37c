use borrow.Author.Rules.{rules}
use Rattle.bits.proofs.Storing.{fits_test, fits_all}
use Rattle.writer.proofs.fits.Statement.{statement}
use Rattle.writer.proofs.fits.Tie as tie

pub fits_spec : {M : Type 1} → statement M
fits_spec = tie.close (tie.spec (λ c. search rules) (λ c. search fits_test) (λ c. search fits_all))
