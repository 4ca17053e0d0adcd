use Rattle.hub_check.proofs.Vocabulary.{◌≡◌, drop, list_all, named_by, has_act_of}
use Rattle.hub_check.proofs.names.have_named.Given as goal

-- what is left decides
abbrev pub invariant-loop-word : goal.invariant-loop-word
invariant-loop-word l =
    list_all (λ word. has_act_of l.acts (named_by word)) l.words
    ≡ list_all (λ word. has_act_of l.acts (named_by word)) (drop l.word-index l.words)
