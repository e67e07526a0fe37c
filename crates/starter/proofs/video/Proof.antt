use borrow.Author.Rules.{rules}
use Rattle.fill.specs.Fills.{at, of, each, nowhere, ◌▸◌, ◌▹◌}
use Rattle.sequence_reader.specs.Layouts.{numbers_of}
use Rattle.starter.specs.Video.{video}
use Rattle.starter.proofs.video.Statement.{statement}
use Rattle.starter.proofs.video.Tie as tie

-- both sides are numbers, once the five that calls give are known
returns : tie.Need-returns
unfolding numbers_of video at of each nowhere ◌▸◌ ◌▹◌
returns c =
    rw (
      c.bits_minus_1-2.ensures,
      c.before.bits_minus_1.ensures,
      c.before.before.profile.ensures,
      c.before.before.before.minus_1-h.ensures,
      c.before.before.before.before.minus_1-w.ensures,
    )

pub video_spec : {M : Type 1} → statement M
video_spec =
    tie.close
    (tie.spec
    (λ c κs. search rules) (λ c κs. search rules)
    (λ c. search rules) (λ c. search rules) (λ c κs. search rules) (λ c. search rules) (λ c. search rules)
    (λ c κs. search rules) (λ c. search rules)
    (λ c κs. search rules) (λ c. search rules)
    (λ c. search rules) (λ c. search rules)
    (λ c. search rules) (λ c. search rules) (λ c. search rules) (λ c. search rules) (λ c. search rules) (λ c. search rules) (λ c. search rules) (λ c. search rules) (λ c. search rules) (λ c. search rules)
    (λ c. search rules) (λ c. search rules) (λ c. search rules) (λ c. search rules)
    (λ c. search rules) (λ c. search rules) (λ c. search rules) (λ c. search rules)
    (λ c. search rules) (λ c. search rules) (λ c. search rules) (λ c. search rules)
    (λ c. search rules) (λ c. search rules) (λ c. search rules) (λ c. search rules) (λ c. search rules) (λ c. search rules)
    returns)
