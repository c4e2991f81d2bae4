-- `grammar::alternatives::declaration_form` meets its contract: the table is the definition's, by computation. Assumes nothing.
use mathlib.Core.Path.{◌∙◌, refl, ap}
use Rattle.grammar.specs.internal.Nonterminals.{declaration}
use Rattle.grammar.specs.internal.Forms.{declaration_form_number}
use Rattle.grammar.specs.declared.tables.TheConstants.{DECLARATION}
use Rattle.grammar.proofs.Laws.Groups17.{kind_number}
use Rattle.grammar.proofs.Laws.Forms.{form_by_table}
use Rattle.grammar.proofs.alternatives.declaration_form.Goals as goal

pub returns : goal.returns
unfolding kind_number
returns c = ap declaration_form_number c.entry.ensures ∙ form_by_table declaration_form_number declaration DECLARATION refl refl c.args.kind
