use Rattle.rv_exec.proofs.Divisions.{divides_signed, divides_unsigned}
use Rattle.rv_exec.proofs.Products.{words_make_the_products}
use Rattle.rv_exec.proofs.laws.divisions_and_products.Goals as goal

pub returns-clause-unsigned : goal.returns-clause-unsigned
returns-clause-unsigned c = divides_unsigned

pub returns-clause-signed : goal.returns-clause-signed
returns-clause-signed c = divides_signed

pub returns-clause-products : goal.returns-clause-products
returns-clause-products c = words_make_the_products
