mod FormsFit
