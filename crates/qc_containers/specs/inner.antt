pub mod RisingParts
