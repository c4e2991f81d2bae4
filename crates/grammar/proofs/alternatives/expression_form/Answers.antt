-- `grammar::alternatives::expression_form` meets its contract: the table is the definition's, by computation. Assumes nothing.
use mathlib.Core.Path.{◌∙◌, refl, ap}
use Rattle.grammar.specs.internal.Nonterminals.{expression}
use Rattle.grammar.specs.internal.Forms.{expression_form_number}
use Rattle.grammar.specs.declared.tables.TheConstants.{EXPRESSION}
use Rattle.grammar.proofs.Laws.Groups17.{kind_number}
use Rattle.grammar.proofs.Laws.Forms.{form_by_table}
use Rattle.grammar.proofs.alternatives.expression_form.Goals as goal

pub returns : goal.returns
unfolding kind_number
returns c = ap expression_form_number c.entry.ensures ∙ form_by_table expression_form_number expression EXPRESSION refl refl c.args.kind
