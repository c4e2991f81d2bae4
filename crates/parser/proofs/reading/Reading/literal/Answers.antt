-- `Reading::literal` meets its contract. Assumes nothing.
use mathlib.Core.Path.{◌∙◌}
use native.Mathlib.Numerals.{add-one}
use Rattle.grammar.specs.internal.Nonterminals.{expression}
use Rattle.parser.proofs.Laws.Openings.{no_expression}
use Rattle.parser.proofs.Laws.Results.{no_level, some_kind}
use Rattle.parser.proofs.Laws.Expressions.{literal_here, none_here, literal_leaf, literal_stuck, literal-deep}
use Rattle.parser.proofs.reading.Reading.literal.Goals as goal

pub returns-then-ne-clause-reads : goal.returns-then-ne-clause-reads
returns-then-ne-clause-reads c = λ source e.
    rw c.no_program.ensures
    (literal_stuck source _ c.args.self.now.tokens_good e _
    (none_here c.expression_form.result c.kind.ensures c.expression_form.ensures c.ne.ensures c.if-ne.true))

pub returns-in_err-below-clause-reads : goal.returns-in_err-below-clause-reads
returns-in_err-below-clause-reads c = λ source e.
    no_level _ _ c.from_residual.ensures.1 c.in_err-below.ensures.stops
    (literal-deep source _ c.args.self.now.tokens_good e _
    (literal_here c.expression_form.result c.kind.ensures c.expression_form.ensures c.ne.ensures c.if-ne.false))

pub leaf-requires-clause-some : goal.leaf-requires-clause-some
leaf-requires-clause-some c =
    some_kind expression no_expression _
    (literal_here c.expression_form.result c.kind.ensures c.expression_form.ensures c.ne.ensures c.if-ne.false)

pub returns-clause-reads : goal.returns-clause-reads
returns-clause-reads c = λ source e.
    literal_leaf source _ c.args.self.now.tokens_good e
    (literal_here c.expression_form.result c.kind.ensures c.expression_form.ensures c.ne.ensures c.if-ne.false)
    c.requires (c.in_ok-below.ensures.goes ∙ add-one _) c.leaf.ensures.answer c.leaf.ensures.table
