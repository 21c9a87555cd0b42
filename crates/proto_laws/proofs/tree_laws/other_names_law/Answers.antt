use Rattle.proto_laws.proofs.OtherNames.{no_other_word, other_names-apart, other_names-identifiers, other_names-rise}
use Rattle.proto_laws.proofs.tree_laws.other_names_law.Goals as goal

pub returns-clause-order : goal.returns-clause-order
returns-clause-order c = λ text. other_names-rise text (c.ordered_tokens.ensures text)

pub returns-clause-apart : goal.returns-clause-apart
returns-clause-apart c = λ text. other_names-apart text (c.ordered_tokens.ensures text) (c.one_token_list.ensures.exist text)

pub returns-clause-identifiers : goal.returns-clause-identifiers
returns-clause-identifiers c = λ text. other_names-identifiers text (c.one_token_list.ensures.exist text) (c.cut_tokens.ensures text)

pub returns-clause-words : goal.returns-clause-words
returns-clause-words c = no_other_word
