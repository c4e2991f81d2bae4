-- `Reading::declaration` meets its contract. Assumes nothing.
use Rattle.grammar.specs.internal.Nonterminals.{declaration}
use Rattle.grammar.specs.internal.Forms.{declaration_form_number}
use Rattle.grammar.proofs.Laws.Forms.{declaration_begins}
use Rattle.parser.proofs.Laws.Openings.{form_number, none_number, some_number}
use Rattle.parser.proofs.Laws.Declarations.{function_kind, declaration_stuck, declaration_deep, function_declares}
use Rattle.parser.proofs.Laws.Results.{no_level}
use Rattle.parser.proofs.reading.Reading.declaration.Goals as goal

pub returns-in_default-clause-reads : goal.returns-in_default-clause-reads
returns-in_default-clause-reads c =
    rw c.no_program.ensures (declaration_stuck c.args.self.now.source.now _ c.args.self.now.tokens_good _ _
    (none_number declaration_form_number declaration c.kind.ensures c.declaration_form.ensures c.in_default.is))

pub returns-in_err-below-clause-reads : goal.returns-in_err-below-clause-reads
returns-in_err-below-clause-reads c =
    no_level _ _ c.from_residual.ensures.1 c.in_err-below.ensures.stops
    (declaration_deep c.args.self.now.source.now _ c.args.self.now.tokens_good _ _
    (some_number declaration_form_number declaration declaration_begins c.kind.ensures c.declaration_form.ensures c.in-Some.is)
    c.requires)

pub function-requires-clause-at_sign : goal.function-requires-clause-at_sign
function-requires-clause-at_sign c =
    function_kind _ (form_number declaration_form_number declaration c.kind.ensures c.declaration_form.ensures c.in-Some.is c.in-Function.is)

pub returns-in-Function-clause-reads : goal.returns-in-Function-clause-reads
returns-in-Function-clause-reads c =
    function_declares c.args.self.now.source.now _ c.args.self.now.tokens_good _
    (form_number declaration_form_number declaration c.kind.ensures c.declaration_form.ensures c.in-Some.is c.in-Function.is)
    c.requires c.function.ensures.reads
