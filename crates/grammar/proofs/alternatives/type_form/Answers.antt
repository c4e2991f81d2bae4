-- `grammar::alternatives::type_form` meets its contract: the table is the definition's, by computation. Assumes nothing.
use mathlib.Core.Path.{◌∙◌, refl, ap}
use Rattle.grammar.specs.internal.Nonterminals.{type}
use Rattle.grammar.specs.internal.Forms.{type_form_number}
use Rattle.grammar.specs.declared.tables.TheConstants.{TYPE}
use Rattle.grammar.proofs.Laws.Groups17.{kind_number}
use Rattle.grammar.proofs.Laws.Forms.{form_by_table}
use Rattle.grammar.proofs.alternatives.type_form.Goals as goal

pub returns : goal.returns
unfolding kind_number
returns c = ap type_form_number c.entry.ensures ∙ form_by_table type_form_number type TYPE refl refl c.args.kind
