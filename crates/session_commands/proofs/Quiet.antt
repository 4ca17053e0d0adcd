-- A command that lists nothing, and its answer.

pub quietly : {P Q : Type 0} → P → Q → P × Q
quietly silent answers = (silent, answers)
