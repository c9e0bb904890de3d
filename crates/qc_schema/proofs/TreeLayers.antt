-- JSON trees by their outermost layer.
use Rattle.qc_data.specs.declared.data.Json.{the_lemmas}

pub ruleset by_layer = (the_lemmas)
