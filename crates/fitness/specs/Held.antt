-- What the values of a machine are judged by, as contracts read it. Assumes nothing.
use Rattle.state.specs.States.{State, state}
use Rattle.fitness.specs.declared.View.{View}

-- the state that a view is of
abbrev pub held : View → State
held v = state v.frames.now v.kinds.now v.words.now
