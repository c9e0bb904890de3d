mod Classes
mod Taking
