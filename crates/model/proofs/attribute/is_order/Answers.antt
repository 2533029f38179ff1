-- `attribute::is_order` meets its contract: first come, any other. Assumes nothing.
use borrow.Author.Tests.{eq-eqb, ne_eqb}
use Rattle.model.proofs.attribute.is_order.Goals as goal

pub returns-then-attribute-eq-TA_TFIFO : goal.returns-then-attribute-eq-TA_TFIFO
returns-then-attribute-eq-TA_TFIFO c = rw (eq-eqb c.args.attribute 0 c.if-attribute-eq-TA_TFIFO.true)

pub returns-else-attribute-eq-TA_TFIFO : goal.returns-else-attribute-eq-TA_TFIFO
returns-else-attribute-eq-TA_TFIFO c = rw (ne_eqb c.args.attribute 0 c.if-attribute-eq-TA_TFIFO.false)
