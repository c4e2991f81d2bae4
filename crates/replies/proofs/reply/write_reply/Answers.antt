-- The text is that of the answer, and it fits.
use Rattle.std.proofs.Common.{◌≡◌, ◌∙◌, refl, rules, length}
use Rattle.replies.specs.Desk.{desk_tokens, desk_tree, text_room}
use Rattle.replies.proofs.Laws.Sizes.{reply_size, reply_there}
use Rattle.replies.proofs.reply.write_reply.Goals as goal

pub returns-clause-size : goal.returns-clause-size
unfolding desk_tokens desk_tree
returns-clause-size c =
    let size : length c.args.output.now ≡ text_room = search rules in
    let found = c.answer-found.ensures in
    c.bytes_written.ensures
    ∙ reply_size c.args.script.now _ _ _ _ _ _ refl refl found.answer found.tree size c.write_answer-text.ensures.written

pub returns-clause-output : goal.returns-clause-output
unfolding desk_tokens desk_tree
returns-clause-output c =
    let found = c.answer-found.ensures in
    reply_there c.args.script.now _ _ _ _ _ _ refl refl found.answer found.tree c.write_answer-text.ensures.output
