-- `grammar::alternatives::statement_form` meets its contract: the table is the definition's, by computation. Assumes nothing.
use mathlib.Core.Path.{◌∙◌, refl, ap}
use Rattle.grammar.specs.internal.Nonterminals.{statement as aStatement}
use Rattle.grammar.specs.internal.Forms.{statement_form_number}
use Rattle.grammar.specs.declared.tables.TheConstants.{STATEMENT}
use Rattle.grammar.proofs.Laws.Groups17.{kind_number}
use Rattle.grammar.proofs.Laws.Forms.{form_by_table}
use Rattle.grammar.proofs.alternatives.statement_form.Goals as goal

pub returns : goal.returns
unfolding kind_number
returns c = ap statement_form_number c.entry.ensures ∙ form_by_table statement_form_number aStatement STATEMENT refl refl c.args.kind
