-- Both instructions are what the function of the fields gives.
use Rattle.std.proofs.Common.{◌≡◌, Some, sym, ◌∙◌}
use Rattle.rv_decode.proofs.Writing.{decoded-encoding}
use Rattle.rv_decode.proofs.Reading.{Encodes-decoded}
use Rattle.rv_decode.proofs.laws.table_is_a_function_of_the_word.Goals as goal

pub returns-clause-one : goal.returns-clause-one
returns-clause-one c = λ word a b p q.
    let same : Some a ≡ Some b = sym (decoded-encoding word a p) ∙ decoded-encoding word b q in cc

pub returns-clause-found : goal.returns-clause-found
returns-clause-found c = decoded-encoding

pub returns-clause-row : goal.returns-clause-row
returns-clause-row c = Encodes-decoded
