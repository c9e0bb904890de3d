-- The value that the encoding of a datum is, and what begins it.
use Rattle.std.specs.Prelude.{ℕ, List, codes}
use Rattle.serde.specs.Event.{Log, Logs, map_ends}
use Rattle.serde_json.specs.Data.{Data, string, object, no_members, member}
use Rattle.serde_json.specs.Events.{SendsValue}
use Rattle.qc_data.specs.declared.data.Datum.{Datum}
use Rattle.qc_data.specs.Encoding.{enc}
use Rattle.qc_schema.specs.Writing.{data_of}

-- the JSON value of a datum
abbrev pub value_of : Datum → Data
value_of d = data_of (enc d)

-- the object of a side, with its content
abbrev pub side : List ℕ → Data → Data
side marker v = object (member marker v no_members)

-- the object of a class value, with its content
abbrev pub class_value : List ℕ → Data → Data
class_value name v = object (member (codes "$class") (string name) (member (codes "$data") v no_members))

-- with any content and the end of the object, the whole has been sent
abbrev pub Begins : (Data → Data) → Log → Log → Type 0
Begins whole old new =
    (content : Data) (sent end : Log) → SendsValue content new sent → Logs sent end map_ends
    → SendsValue (whole content) old end
